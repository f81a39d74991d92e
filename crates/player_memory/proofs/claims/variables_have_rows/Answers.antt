use Rattle.player_memory.proofs.claims.variables_have_rows.Goals as goal
use Rattle.player_memory.proofs.WorkedMemory.{variables_have_rows}

-- src/claims.rt:7:1
pub returns : goal.returns
returns c = variables_have_rows
