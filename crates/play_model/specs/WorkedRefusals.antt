-- Why small songs can't be played, worked out by hand.
use Rattle.std.specs.Prelude.{[], ◌∷◌}
use Rattle.song_model.specs.declared.tables.TableName.TheVariants.{Pulse}
use Rattle.song_model.specs.declared.songs.Song.{Song}
use Rattle.song_model.specs.LookUp.{zero_instrument}
use Rattle.song_model.specs.Silence.{silence}
use Rattle.play_model.specs.declared.unplayable.Unplayable.TheVariants.{NoSubtune, MissingPattern, TableOverflow}
use Rattle.play_model.specs.Playable.{IsRefusedFor}
use Rattle.play_model.specs.WorkedSongs.{subtune, sides}
use Rattle.play_model.specs.WorkedUses.{with_programs}

-- one subtune, with an empty orderlist
abbrev pub void_song : Song
void_song = record silence { subtunes = subtune [] (0 ∷ []) (0 ∷ []) ∷ [] }

-- patterns are missing at two places
abbrev pub missing_patterns : Song
missing_patterns = record silence { subtunes = subtune (0 ∷ []) (0 ∷ 5 ∷ []) (7 ∷ []) ∷ [] }

-- the pulse program runs off its table
abbrev pub ending_song : Song
ending_song = with_programs (record zero_instrument { pulse = 1 }) [] (sides 0x88 0 ∷ sides 0x20 0x20 ∷ [])

pub record RefusalsAreAsWorked : Type 0 where
  pub no_subtune : IsRefusedFor void_song NoSubtune
  pub least_place : IsRefusedFor missing_patterns (MissingPattern 1 2 1 5)
  pub overflow : IsRefusedFor ending_song (TableOverflow Pulse 3)
