use Rattle.std.proofs.Common.{◌∙◌, ap}
use Rattle.play_model.specs.State.{Voice}
use Rattle.play_model.specs.TickStep.{programs_begun}
use Rattle.playroutine.proofs.notes.sound_begun.Goals as goal

pub returns-clause-rule : goal.returns-clause-rule
returns-clause-rule c = λ plays.
    c.programs_begun.ensures.rule plays
    ∙ ap (λ (v : Voice). programs_begun c.args.instrument.now (record { voice = v; common = c.args.common.now }))
    (c.first_wave_set.ensures.rule plays)
