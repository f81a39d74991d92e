use Rattle.player_memory.proofs.claims.worked_memory.Goals as goal
use Rattle.player_memory.proofs.WorkedMemory.{voices_are_worked, voice_rows_are_worked, commons_are_worked, rooms_are_worked}
use Rattle.player_memory.proofs.WorkedPlays.{plays_are_worked, lists_are_worked}

-- src/claims.rt:13:1
pub returns-clause-voices : goal.returns-clause-voices
returns-clause-voices c = voices_are_worked

pub returns-clause-voice_rows : goal.returns-clause-voice_rows
returns-clause-voice_rows c = voice_rows_are_worked

pub returns-clause-commons : goal.returns-clause-commons
returns-clause-commons c = commons_are_worked

pub returns-clause-rooms : goal.returns-clause-rooms
returns-clause-rooms c = rooms_are_worked

pub returns-clause-plays : goal.returns-clause-plays
returns-clause-plays c = plays_are_worked

pub returns-clause-lists : goal.returns-clause-lists
returns-clause-lists c = lists_are_worked
