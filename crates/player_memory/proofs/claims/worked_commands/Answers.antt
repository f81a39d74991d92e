use Rattle.player_memory.proofs.claims.worked_commands.Goals as goal
use Rattle.player_memory.proofs.WorkedCommands.{commands_are_worked}

-- src/claims.rt:32:1
pub returns : goal.returns
returns c = commands_are_worked
