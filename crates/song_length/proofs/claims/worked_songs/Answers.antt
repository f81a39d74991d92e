use Rattle.song_length.proofs.Worked.{plays_are_worked, repeats_are_worked, dearest_are_worked, told_are_worked}
use Rattle.song_length.proofs.claims.worked_songs.Goals as goal

pub returns-clause-plays : goal.returns-clause-plays
returns-clause-plays c = plays_are_worked

pub returns-clause-repeats : goal.returns-clause-repeats
returns-clause-repeats c = repeats_are_worked

pub returns-clause-dearest : goal.returns-clause-dearest
returns-clause-dearest c = dearest_are_worked

pub returns-clause-told : goal.returns-clause-told
returns-clause-told c = told_are_worked
