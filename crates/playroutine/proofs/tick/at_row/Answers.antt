use Rattle.std.proofs.Common.{◌∙◌, ap}
use Rattle.play_model.specs.LookUps.{look_ups_of}
use Rattle.play_model.specs.State.{Playing}
use Rattle.play_model.specs.TickStep.{note_ended, at_row, row_command}
use Rattle.playroutine.proofs.tick.at_row.Goals as goal

pub returns-clause-rule : goal.returns-clause-rule
unfolding at_row
returns-clause-rule c = λ plays.
    c.note_ended.ensures.rule plays c.row_command.new.common
    ∙ ap (λ (s : Playing). note_ended s)
    (c.row_command.ensures.rule plays
    ∙ ap (λ (s : Playing). row_command c.args.channel (look_ups_of c.args.song.now) c.args.instrument.now
    c.args.voice.now.new_command c.args.voice.now.new_param s) (c.note_started.ensures.rule plays))
