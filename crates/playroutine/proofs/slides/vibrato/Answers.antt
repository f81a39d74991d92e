use Rattle.play_model.specs.Helpers.{vibrato}
use Rattle.playroutine.proofs.slides.vibrato.Goals as goal

pub returns-clause-rule : goal.returns-clause-rule
unfolding vibrato
returns-clause-rule c = λ plays.
    rw (← c.speed-row.ensures, ← c.turned-time.ensures, ← c.depth_of-depth.ensures) (c.swung.ensures.rule plays)
