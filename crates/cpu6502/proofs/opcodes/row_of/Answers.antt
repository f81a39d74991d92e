use Rattle.cpu6502.proofs.Columns.{rows_are_few}
use Rattle.cpu6502.proofs.opcodes.row_of.Goals as goal

pub returns-clause-quick : goal.returns-clause-quick
returns-clause-quick c = rows_are_few c.from.result
