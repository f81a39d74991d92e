use Rattle.std.proofs.Common.{refl}
use Rattle.command_line.proofs.Forms.{no_speed}
use Rattle.command_line.proofs.arguments.speed_of.Goals as goal

pub returns-in-None : goal.returns-in-None
returns-in-None c =
    no_speed _ c.in_ok-calls.calls (rw c.from.ensures at c.in_ok-calls.ensures) (c.in-None.ensures.none.0 refl)
