use Rattle.player_memory.proofs.claims.worked_songs.Goals as goal
use Rattle.player_memory.proofs.WorkedFetching.{songs_are_worked}

-- src/claims.rt:27:1
pub returns : goal.returns
returns c = songs_are_worked
