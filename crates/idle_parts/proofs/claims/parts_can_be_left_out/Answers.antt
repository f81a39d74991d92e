use Rattle.idle_parts.proofs.LeftOut.{parts_can_be_left_out}
use Rattle.idle_parts.proofs.claims.parts_can_be_left_out.Goals as goal

pub returns : goal.returns
returns c = parts_can_be_left_out
