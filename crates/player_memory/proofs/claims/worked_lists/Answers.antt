use Rattle.player_memory.proofs.claims.worked_lists.Goals as goal
use Rattle.player_memory.proofs.WorkedLists.{song_lists_are_worked}

pub returns : goal.returns
returns c = song_lists_are_worked
