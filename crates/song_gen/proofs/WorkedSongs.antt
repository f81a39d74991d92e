-- What each song has, and the first and the last draws of worked ones.
use Rattle.std.proofs.Common.{refl}
use Rattle.song_gen.specs.Draws.{next, after, draw}
use Rattle.song_gen.specs.GeneratedSong.{generated_song, instruments_from, row_from, behind_row, behind_rows}
use Rattle.song_gen.specs.GeneratedSong.{pattern_from, order_from}
use Rattle.song_gen.specs.WorkedSongs.{EachHasTables, FirstDrawsAre, LastDrawsAre}

pub each_has_tables : EachHasTables
unfolding generated_song instruments_from
each_has_tables x = record { wave = refl; pulse = refl; filter = refl; speed = refl; instruments = refl }

pub first_draws_are : FirstDrawsAre
unfolding next after draw instruments_from row_from behind_row behind_rows pattern_from
first_draws_are = record { instruments_of_0 = refl; rows_of_0 = refl; instruments_of_most = refl; rows_of_most = refl }

pub last_draws_are : LastDrawsAre
unfolding next after draw row_from behind_row behind_rows order_from
last_draws_are = record { first = refl; entries = refl; restart = refl }
