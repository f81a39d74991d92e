use Rattle.slide_code.proofs.claims.commands_move.Goals as goal
use Rattle.slide_code.proofs.Commands.{commands_move, has_its_lines}

-- src/claims.rt:18:1
pub returns-clause-rules : goal.returns-clause-rules
returns-clause-rules c = commands_move

pub returns-clause-lines : goal.returns-clause-lines
returns-clause-lines c = has_its_lines
