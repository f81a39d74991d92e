-- Songs that play the same: what is asked of one in place of another.
use Rattle.std.specs.Prelude.{◌≡◌, ℕ, ◌<◌, length}
use Rattle.song_model.specs.declared.songs.Song.{Song}
use Rattle.song_model.specs.LookUp.{playable_subtunes}
use Rattle.play_model.specs.declared.options.Options.{Options}
use Rattle.play_model.specs.Frame.{trace_with}

-- the other song has as many subtunes that can be played, and each leaves the same in the registers after each call,
-- with these options
pub record PlaysSame (o : Options) (song other : Song) : Type 0 where
  pub count : length (playable_subtunes other) ≡ length (playable_subtunes song)
  pub trace : (k i : ℕ) → k < length (playable_subtunes song) → trace_with o other k i ≡ trace_with o song k i
