use Rattle.asm6502.proofs.Naming.{size_of-append, kept-append}
use Rattle.asm6502.proofs.Standing.{fronts_stand, backs_stand, both_stand, lines_stay}
use Rattle.asm6502.proofs.claims.lines_that_stand.Goals as goal

pub returns-clause-held : goal.returns-clause-held
returns-clause-held c memory address bytes held = record { byte = held.byte }

pub returns-clause-sizes : goal.returns-clause-sizes
returns-clause-sizes c = size_of-append

pub returns-clause-kept : goal.returns-clause-kept
returns-clause-kept c = kept-append

pub returns-clause-front : goal.returns-clause-front
returns-clause-front c = fronts_stand

pub returns-clause-back : goal.returns-clause-back
returns-clause-back c = backs_stand

pub returns-clause-both : goal.returns-clause-both
returns-clause-both c = both_stand

pub returns-clause-stay : goal.returns-clause-stay
returns-clause-stay c = lines_stay
