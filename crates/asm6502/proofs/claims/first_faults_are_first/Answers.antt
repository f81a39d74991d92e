use Rattle.std.proofs.Common.{[]}
use Rattle.asm6502.proofs.Found.{first_is_first, none_found, all_passed}
use Rattle.asm6502.proofs.claims.first_faults_are_first.Goals as goal

pub returns-clause-first : goal.returns-clause-first
returns-clause-first c = first_is_first

pub returns-clause-none : goal.returns-clause-none
returns-clause-none c test lines front line back n e = none_found test [] lines front line back n e

pub returns-clause-passed : goal.returns-clause-passed
returns-clause-passed c test lines h = all_passed test [] lines h
