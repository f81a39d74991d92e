use Rattle.std.proofs.Common.{refl}
use Rattle.command_line.specs.Words.{said}
use Rattle.command_line.proofs.arguments.said_options.Goals as goal

pub returns-in-none : goal.returns-in-none
returns-in-none c = rw (c.in-none.is, c.none.ensures) (said _ refl c.in_ok-speed.ensures refl)

pub returns-in-effects : goal.returns-in-effects
returns-in-effects c = rw (c.in-effects.is, c.effects.ensures) (said _ refl c.in_ok-speed.ensures refl)

pub returns-in-pulse : goal.returns-in-pulse
returns-in-pulse c = rw (c.in-pulse.is, c.pulse.ensures) (said _ refl c.in_ok-speed.ensures refl)

pub returns-in-both : goal.returns-in-both
returns-in-both c = rw (c.in-both.is, c.both.ensures) (said _ refl c.in_ok-speed.ensures refl)

pub returns-in-all : goal.returns-in-all
returns-in-all c = rw (c.in-all.is, c.all.ensures) (said _ refl c.in_ok-speed.ensures refl)
