use Rattle.cpu6502.proofs.Inverse.{opcodes_have_rows, rows_have_opcodes, rows_differ}
use Rattle.cpu6502.proofs.claims.opcode_is_inverse_of_meaning.Goals as goal

pub returns-clause-opcodes : goal.returns-clause-opcodes
returns-clause-opcodes c = opcodes_have_rows

pub returns-clause-rows : goal.returns-clause-rows
returns-clause-rows c = rows_have_opcodes

pub returns-clause-differ : goal.returns-clause-differ
returns-clause-differ c = rows_differ
