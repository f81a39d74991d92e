-- What a small song uses, and which songs can be played, worked out by hand.
use Rattle.std.specs.Prelude.{ℕ, List, [], ◌∷◌, Contains, ◌↔◌}
use Rattle.song_model.specs.declared.features.Feature.TheVariants.{PortaUp, PortaDown, PulseTable, FilterTable}
use Rattle.song_model.specs.declared.features.Feature.TheVariants.{SetTempo, WaveTable, WaveCommand}
use Rattle.song_model.specs.declared.instruments.Instrument.{Instrument}
use Rattle.song_model.specs.declared.tables.TableName.TheVariants.{Wave, Pulse, Speed}
use Rattle.song_model.specs.declared.tables.TableRow.{TableRow}
use Rattle.song_model.specs.declared.songs.Song.{Song}
use Rattle.song_model.specs.LookUp.{zero_instrument}
use Rattle.song_model.specs.Silence.{silence}
use Rattle.play_model.specs.Reached.{IsReached, IsPointer}
use Rattle.play_model.specs.Playable.{IsPlayable}
use Rattle.play_model.specs.Features.{HasFeature}
use Rattle.play_model.specs.WorkedSongs.{sides}

-- the silent song with this instrument, and these wave and pulse tables
abbrev pub with_programs : Instrument → List TableRow → List TableRow → Song
with_programs instrument wave pulse = record silence { instruments = instrument ∷ []; wave = wave; pulse = pulse }

-- the wave program has command 2 in its third row, and goes on there from its fourth; the pulse program ends at its
-- second row, with a row behind it
abbrev pub looping_song : Song
looping_song =
    with_programs (record zero_instrument { wave = 1; pulse = 1 })
    (sides 0x41 0 ∷ sides 0x41 0 ∷ sides 0xF2 1 ∷ sides 0xFF 3 ∷ [])
    (sides 0x88 0 ∷ sides 0 0 ∷ sides 0x20 0x20 ∷ [])

-- the row behind the end isn't reached, and the jump of the wave table is no command $F
pub record UsesAreAsWorked : Type 0 where
  pub silent : IsPlayable silence
  pub playable : IsPlayable looping_song
  pub wave_rows : (p : ℕ) → IsReached looping_song Wave p ↔ Contains (1 ∷ 2 ∷ 3 ∷ 4 ∷ []) p
  pub pulse_rows : (p : ℕ) → IsReached looping_song Pulse p ↔ Contains (1 ∷ 2 ∷ []) p
  pub pointer : IsPointer looping_song Speed 1
  pub command : HasFeature looping_song PortaDown
  pub wave_command : HasFeature looping_song WaveCommand
  pub wave_table : HasFeature looping_song WaveTable
  pub pulse_table : HasFeature looping_song PulseTable
  pub other_command : ¬ HasFeature looping_song PortaUp
  pub no_filter : ¬ HasFeature looping_song FilterTable
  pub no_tempo : ¬ HasFeature looping_song SetTempo
