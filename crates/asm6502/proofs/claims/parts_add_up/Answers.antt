use Rattle.asm6502.proofs.Parts.{part_size-append, parts_add_up, parts_stand_together}
use Rattle.asm6502.proofs.claims.parts_add_up.Goals as goal

pub returns-clause-sum : goal.returns-clause-sum
returns-clause-sum c = parts_add_up

pub returns-clause-append : goal.returns-clause-append
returns-clause-append c = part_size-append

pub returns-clause-together : goal.returns-clause-together
returns-clause-together c = parts_stand_together
