use Rattle.cpu6502.proofs.Sums.{sums_are_of_numbers, differences_are_of_numbers}
use Rattle.cpu6502.proofs.claims.sums_are_of_numbers.Goals as goal

pub returns-clause-sums : goal.returns-clause-sums
returns-clause-sums c = sums_are_of_numbers

pub returns-clause-differences : goal.returns-clause-differences
returns-clause-differences c = differences_are_of_numbers
