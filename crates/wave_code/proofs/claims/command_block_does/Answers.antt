use Rattle.wave_code.proofs.claims.command_block_does.Goals as goal
use Rattle.wave_code.proofs.Commanding.{command_block_does, command_block_lends, commands_leave_the_program}

-- src/claims.rt:34:1
pub returns-clause-does : goal.returns-clause-does
returns-clause-does c = command_block_does

pub returns-clause-lends : goal.returns-clause-lends
returns-clause-lends c = command_block_lends

pub returns-clause-program : goal.returns-clause-program
returns-clause-program c = commands_leave_the_program
