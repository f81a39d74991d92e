-- The features of a song: what a player of it has to be able to do. This is this project's profile of the
-- GoatTracker 2 readme's commands and tables.
use Rattle.std.specs.Prelude.{◌≡◌, ◌≢◌, ℕ, ◌+◌, ◌%◌, ◌^◌, ◌<◌, ◌≤◌, ◌⊎◌}
use Rattle.std.specs.Prelude.{◌↔◌, IsBitSet}
use Rattle.song_model.specs.declared.rows.Row.{Row}
use Rattle.song_model.specs.declared.features.Feature.{Feature}
use Rattle.song_model.specs.declared.features.Feature.TheVariants.{Transpose, Repeat, PortaUp, PortaDown, TonePorta}
use Rattle.song_model.specs.declared.features.Feature.TheVariants.{TieNote, Vibrato, InstrumentVibrato, NoteDependent}
use Rattle.song_model.specs.declared.features.Feature.TheVariants.{SetAd, SetSr, SetWave, SetWavePointer, PulseTable}
use Rattle.song_model.specs.declared.features.Feature.TheVariants.{SetPulsePointer, FilterTable, SetFilterPointer}
use Rattle.song_model.specs.declared.features.Feature.TheVariants.{FilterControl, Cutoff, Volume, FunkTempo, SetTempo}
use Rattle.song_model.specs.declared.features.Feature.TheVariants.{WaveTable, WaveCommand}
use Rattle.song_model.specs.declared.tables.TableName.{TableName}
use Rattle.song_model.specs.declared.tables.TableName.TheVariants.{Wave, Pulse, Filter, Speed}
use Rattle.song_model.specs.declared.songs.Song.{Song}
use Rattle.song_model.specs.Feature.{bit_of}
use Rattle.song_model.specs.LookUp.{table_row, speed_row, instrument_at}
use Rattle.play_model.specs.Used.{IsPlayedByte, IsUsedRow, IsUsedInstrument}
use Rattle.play_model.specs.Reached.{IsReached, IsPointer}

-- an orderlist has a byte in this range
pub record HasByte (song : Song) (from to : ℕ) : Type 0 where
  pub byte : ℕ
  pub played : IsPlayedByte song byte
  pub low : from ≤ byte
  pub high : byte ≤ to

-- a row of a used pattern has the command, with such a parameter
pub record HasRow (song : Song) (command : ℕ) (IsMeant : ℕ → Type 0) : Type 0 where
  pub row : Row
  pub used : IsUsedRow song row
  pub command_is : row.command ≡ command
  pub is_meant : IsMeant row.param

-- a reached row of the wave table has the command, with such a right side: its left side is $F0 plus the
-- command
pub record HasWaveRow (song : Song) (command : ℕ) (IsMeant : ℕ → Type 0) : Type 0 where
  pub p : ℕ
  pub reached : IsReached song Wave p
  pub command_is : (table_row song Wave p).left ≡ 0xF0 + command
  pub is_meant : IsMeant (table_row song Wave p).right

-- the command is used, in a pattern or in the wave table
abbrev pub UsesCommand : Song → ℕ → (ℕ → Type 0) → Type 0
UsesCommand song command IsMeant = HasRow song command IsMeant ⊎ HasWaveRow song command IsMeant

-- with any parameter
abbrev pub IsAny : ℕ → Type 0
IsAny d = Unit {0}

-- some used instrument has such a value other than 0
pub record HasInstrument (song : Song) (value_of : ℕ → ℕ) : Type 0 where
  pub instrument : ℕ
  pub used : IsUsedInstrument song instrument
  pub some : value_of instrument ≢ 0

-- there is a pointer into the table
pub record HasPointer (song : Song) (name : TableName) : Type 0 where
  pub p : ℕ
  pub pointer : IsPointer song name p

-- a used pointer names a speed that is taken from the half tone at the last note
pub record HasNoteSpeed (song : Song) : Type 0 where
  pub p : ℕ
  pub pointer : IsPointer song Speed p
  pub from_note : 0x80 ≤ (speed_row song p).left

-- a reached row of the wave table is a command
pub record HasWaveCommand (song : Song) : Type 0 where
  pub p : ℕ
  pub reached : IsReached song Wave p
  pub from : 0xF0 ≤ (table_row song Wave p).left
  pub to : (table_row song Wave p).left ≤ 0xFE

-- the song uses the feature exactly where this holds. A row may change the instrument without a note, so
-- the vibrato of one may run with the delay of another.
abbrev pub HasFeature : Song → Feature → Type 0
HasFeature song Transpose = HasByte song 0xE0 0xFE
HasFeature song Repeat = HasByte song 0xD0 0xDF
HasFeature song PortaUp = UsesCommand song 1 IsAny
HasFeature song PortaDown = UsesCommand song 2 IsAny
HasFeature song TonePorta = UsesCommand song 3 (λ d. d ≢ 0)
HasFeature song TieNote = UsesCommand song 3 (λ d. d ≡ 0)
HasFeature song Vibrato = UsesCommand song 4 IsAny
HasFeature song InstrumentVibrato =
    HasInstrument song (λ i. (instrument_at song i).vibrato)
    × HasInstrument song (λ i. (instrument_at song i).vibrato_delay)
HasFeature song NoteDependent = HasNoteSpeed song
HasFeature song SetAd = UsesCommand song 5 IsAny
HasFeature song SetSr = UsesCommand song 6 IsAny
HasFeature song SetWave = UsesCommand song 7 IsAny
HasFeature song SetWavePointer = HasRow song 8 IsAny
HasFeature song PulseTable = HasPointer song Pulse
HasFeature song SetPulsePointer = UsesCommand song 9 IsAny
HasFeature song FilterTable = HasPointer song Filter
HasFeature song SetFilterPointer = UsesCommand song 0xA IsAny
HasFeature song FilterControl = UsesCommand song 0xB IsAny
HasFeature song Cutoff = UsesCommand song 0xC IsAny
HasFeature song Volume = UsesCommand song 0xD IsAny
HasFeature song FunkTempo = HasRow song 0xE IsAny ⊎ HasRow song 0xF (λ d. d ≤ 1)
HasFeature song SetTempo = HasRow song 0xF (λ d. 3 ≤ d % 128)
HasFeature song WaveTable = HasPointer song Wave
HasFeature song WaveCommand = HasWaveCommand song

-- the set of the song's features, as the number that has exactly their bits
pub record AreFeatures (song : Song) (bits : ℕ) : Type 0 where
  pub small : bits < 2 ^ 24
  pub each : (feature : Feature) → IsBitSet bits (bit_of feature) ↔ HasFeature song feature
