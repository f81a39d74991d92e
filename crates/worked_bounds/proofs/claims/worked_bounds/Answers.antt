use Rattle.worked_bounds.proofs.WorkedBounds.{cycles_are_told, blocks_are_told, earlier_calls_are_told}
use Rattle.worked_bounds.proofs.WorkedBounds.{machines_are_told, numbers_are_told}
use Rattle.worked_bounds.proofs.claims.worked_bounds.Goals as goal

pub returns-clause-cycles : goal.returns-clause-cycles
returns-clause-cycles c = cycles_are_told

pub returns-clause-blocks : goal.returns-clause-blocks
returns-clause-blocks c = blocks_are_told

pub returns-clause-earlier : goal.returns-clause-earlier
returns-clause-earlier c = earlier_calls_are_told

pub returns-clause-machines : goal.returns-clause-machines
returns-clause-machines c = machines_are_told

pub returns-clause-numbers : goal.returns-clause-numbers
returns-clause-numbers c = numbers_are_told
