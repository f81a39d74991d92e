use Rattle.cpu6502.proofs.Laws.{opcodes_have_rows, rows_have_opcodes}
use Rattle.asm6502.proofs.Rounds.{what_is_encoded_decodes, nothing_else_decodes}
use Rattle.asm6502.proofs.claims.decode_is_inverse_of_encode.Goals as goal

pub returns-clause-decodes : goal.returns-clause-decodes
returns-clause-decodes c = what_is_encoded_decodes opcodes_have_rows

pub returns-clause-nothing_else : goal.returns-clause-nothing_else
returns-clause-nothing_else c = nothing_else_decodes rows_have_opcodes
