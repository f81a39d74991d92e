use Rattle.std.proofs.Common.{sym, ◌∙◌, ap}
use Rattle.play_model.specs.LookUps.{look_ups_of}
use Rattle.play_model.specs.State.{Playing}
use Rattle.play_model.specs.WaveStep.{program_moved, right_done}
use Rattle.playroutine.proofs.wave.wave_row.Goals as goal

pub returns-clause-rule : goal.returns-clause-rule
returns-clause-rule c = λ plays.
    rw (sym c.is_waiting.ensures ∙ c.if-is_waiting.false)
    (c.right_done.ensures.rule plays c.left_done.new.common
    ∙ ap (λ (s : Playing). right_done c.args.row s)
    (c.program_moved.ensures.rule plays c.left_done.new.common
    ∙ ap (λ (s : Playing). program_moved (look_ups_of c.args.song.now) c.args.voice.now.wave_ptr s)
    (c.left_done.ensures.rule plays)))
