use Rattle.cpu6502.proofs.Laws.{opcodes_have_rows}
use Rattle.asm6502.proofs.Whole.{assembled_lines_stand}
use Rattle.asm6502.proofs.Stretches.{stretches_stand}
use Rattle.asm6502.proofs.claims.assembled_lines_stand.Goals as goal

pub returns-clause-all : goal.returns-clause-all
returns-clause-all c = assembled_lines_stand opcodes_have_rows

pub returns-clause-stretch : goal.returns-clause-stretch
returns-clause-stretch c = stretches_stand opcodes_have_rows
