use Rattle.player_memory.proofs.claims.worked_beginnings.Goals as goal
use Rattle.player_memory.proofs.WorkedStarting.{beginnings_are_worked, first_plays_are_worked}

pub returns-clause-bytes : goal.returns-clause-bytes
returns-clause-bytes c = beginnings_are_worked

pub returns-clause-plays : goal.returns-clause-plays
returns-clause-plays c = first_plays_are_worked
