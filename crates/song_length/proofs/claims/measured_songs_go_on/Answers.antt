use Rattle.song_length.proofs.Lasting.{measured_songs_go_on, few_are_told, plays_cost_little}
use Rattle.song_length.proofs.claims.measured_songs_go_on.Goals as goal

pub returns-clause-going : goal.returns-clause-going
returns-clause-going c = measured_songs_go_on

pub returns-clause-few : goal.returns-clause-few
returns-clause-few c = few_are_told

pub returns-clause-plays : goal.returns-clause-plays
returns-clause-plays c = plays_cost_little
