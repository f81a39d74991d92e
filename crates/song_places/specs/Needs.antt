-- What of a song needs a feature or gives it a fact: which bytes of orderlists, rows of patterns, instruments and rows
-- of the wave table.
-- This is this project's profile of the GoatTracker 2 readme's commands and tables.
use Rattle.std.specs.Prelude.{◌≡◌, ◌≢◌, ℕ, ◌+◌, ◌%◌, ◌<◌, ◌≤◌, ◌⊎◌, true, Option, Some, slice_get, Any}
use Rattle.song_model.specs.declared.rows.Row.{Row}
use Rattle.song_model.specs.declared.orders.Subtune.{Subtune}
use Rattle.song_model.specs.declared.instruments.Instrument.{Instrument}
use Rattle.song_model.specs.declared.tables.TableRow.{TableRow}
use Rattle.song_model.specs.declared.tables.TableName.{TableName}
use Rattle.song_model.specs.declared.tables.TableName.TheVariants.{Wave, Pulse, Filter, Speed}
use Rattle.song_model.specs.declared.features.Feature.{Feature}
use Rattle.song_model.specs.declared.features.Feature.TheVariants.{Transpose, Repeat, PortaUp, PortaDown, TonePorta}
use Rattle.song_model.specs.declared.features.Feature.TheVariants.{TieNote, Vibrato, InstrumentVibrato, NoteDependent}
use Rattle.song_model.specs.declared.features.Feature.TheVariants.{SetAd, SetSr, SetWave, SetWavePointer, PulseTable}
use Rattle.song_model.specs.declared.features.Feature.TheVariants.{SetPulsePointer, FilterTable, SetFilterPointer}
use Rattle.song_model.specs.declared.features.Feature.TheVariants.{FilterControl, Cutoff, Volume, FunkTempo, SetTempo}
use Rattle.song_model.specs.declared.features.Feature.TheVariants.{WaveTable, WaveCommand}
use Rattle.song_model.specs.declared.songs.Song.{Song}
use Rattle.song_model.specs.LookUp.{speed_row, pattern_at, instrument_at, is_playable_subtune}
use Rattle.song_model.specs.Endless.{IsPatternByte}
use Rattle.song_model.specs.Pointers.{instrument_pointer, command_table, wave_row_table}
use Rattle.play_model.specs.Features.{IsAny, HasInstrument}
use Rattle.song_facts.specs.declared.facts.Fact.{Fact}
use Rattle.song_facts.specs.declared.facts.Fact.TheVariants.{RowTone, RowSlide, RowOnce, FirstMask, Legato, NoHardRestart}
use Rattle.song_facts.specs.declared.facts.Fact.TheVariants.{WaveDelay, GateNote, NoteVibrato}
use Rattle.song_facts.specs.declared.facts.Fact.TheVariants.{VibratoDelay, NotePulse, NoteFilter}
use Rattle.song_facts.specs.declared.facts.Fact.TheVariants.{VoiceTempo, CommonTempo, FunkTurns, FunkChoice}
use Rattle.song_facts.specs.declared.facts.Fact.TheVariants.{OwnTimer, OwnWave, Subtunes, VoiceTwo, VoiceThree}
use Rattle.song_facts.specs.declared.facts.Fact.TheVariants.{FirstHolds}
use Rattle.song_facts.specs.Hold.{HoldsMore}
use Rattle.song_facts.specs.Facts.{IsHeard, IsOfRow, IsOfInstrument, IsOfWaveRow, DifferInTimer, DifferInWave}

pub record Need : Type 1 where
  -- of an orderlist of this channel of the subtune with this number, both counted from 1
  pub byte : ℕ → ℕ → ℕ → Type 0
  pub row : Row → Type 0
  pub instrument : Instrument → Type 0
  pub wave_row : TableRow → Type 0

abbrev pub nothing : Need
nothing = record { byte = λ s c b. ⊥; row = λ r. ⊥; instrument = λ i. ⊥; wave_row = λ r. ⊥ }

-- bytes of orderlists in this range
abbrev pub of_bytes : ℕ → ℕ → Need
of_bytes from to = record nothing { byte = λ s c b. (from ≤ b) × (b ≤ to) }

-- rows of patterns with such a command and parameter
abbrev pub of_rows : (ℕ → ℕ → Type 0) → Need
of_rows IsMeant = record nothing { row = λ r. IsMeant r.command r.param }

-- the command with such a parameter, in rows of patterns, and in rows of the wave table, whose left side is $F0 plus
-- the command
abbrev pub of_command : ℕ → (ℕ → Type 0) → Need
of_command command IsMeant = record nothing {
  row = λ r. (r.command ≡ command) × IsMeant r.param;
  wave_row = λ r. (r.left ≡ 0xF0 + command) × IsMeant r.right;
}

-- the number points into the table, at such a row
abbrev pub Points : TableName → (ℕ → Type 0) → Option TableName → ℕ → Type 0
Points name IsMeant table p = (table ≡ Some name) × (p ≢ 0) × IsMeant p

-- pointers to such a row of the table
abbrev pub of_pointers : TableName → (ℕ → Type 0) → Need
of_pointers name IsMeant = record nothing {
  row = λ r. Points name IsMeant (command_table r.command) r.param;
  instrument = λ i. Points name IsMeant (Some name) (instrument_pointer name i);
  wave_row = λ r. Points name IsMeant (wave_row_table r.left) r.right;
}

-- a vibrato parameter, where some used instrument, not always the same, has a vibrato delay
abbrev pub of_vibrato : Song → Need
of_vibrato song = record nothing {
  instrument = λ i. (i.vibrato ≢ 0) × HasInstrument song (λ j. (instrument_at song j).vibrato_delay);
}

-- rows of the wave table with a left side in this range
abbrev pub of_left_sides : ℕ → ℕ → Need
of_left_sides from to = record nothing { wave_row = λ r. (from ≤ r.left) × (r.left ≤ to) }

-- what needs the feature
abbrev pub need_of : Song → Feature → Need
need_of song Transpose = of_bytes 0xE0 0xFE
need_of song Repeat = of_bytes 0xD0 0xDF
need_of song PortaUp = of_command 1 IsAny
need_of song PortaDown = of_command 2 IsAny
need_of song TonePorta = of_command 3 (λ d. d ≢ 0)
need_of song TieNote = of_command 3 (λ d. d ≡ 0)
need_of song Vibrato = of_command 4 IsAny
need_of song InstrumentVibrato = of_vibrato song
need_of song NoteDependent = of_pointers Speed (λ p. 0x80 ≤ (speed_row song p).left)
need_of song SetAd = of_command 5 IsAny
need_of song SetSr = of_command 6 IsAny
need_of song SetWave = of_command 7 IsAny
need_of song SetWavePointer = of_rows (λ c d. c ≡ 8)
need_of song PulseTable = of_pointers Pulse IsAny
need_of song SetPulsePointer = of_command 9 IsAny
need_of song FilterTable = of_pointers Filter IsAny
need_of song SetFilterPointer = of_command 0xA IsAny
need_of song FilterControl = of_command 0xB IsAny
need_of song Cutoff = of_command 0xC IsAny
need_of song Volume = of_command 0xD IsAny
need_of song FunkTempo = of_rows (λ c d. (c ≡ 0xE) ⊎ ((c ≡ 0xF) × (d ≤ 1)))
need_of song SetTempo = of_rows (λ c d. (c ≡ 0xF) × (3 ≤ d % 128))
need_of song WaveTable = of_pointers Wave IsAny
need_of song WaveCommand = of_left_sides 0xF0 0xFE

-- An instrument gives a song the fact. Each voice begins with instrument 1, so a fact of two instruments is given by
-- one that differs from it, and its first place is the first used instrument that does; and the fact that instrument 1
-- holds more before a note than another is given by one that holds less.
abbrev pub GivesFact : Song → Fact → Instrument → Type 0
GivesFact song RowTone = IsOfInstrument RowTone
GivesFact song RowSlide = IsOfInstrument RowSlide
GivesFact song RowOnce = IsOfInstrument RowOnce
GivesFact song FirstMask = IsOfInstrument FirstMask
GivesFact song Legato = IsOfInstrument Legato
GivesFact song NoHardRestart = IsOfInstrument NoHardRestart
GivesFact song WaveDelay = IsOfInstrument WaveDelay
GivesFact song GateNote = IsOfInstrument GateNote
GivesFact song NoteVibrato = IsOfInstrument NoteVibrato
GivesFact song VibratoDelay = IsOfInstrument VibratoDelay
GivesFact song NotePulse = IsOfInstrument NotePulse
GivesFact song NoteFilter = IsOfInstrument NoteFilter
GivesFact song VoiceTempo = IsOfInstrument VoiceTempo
GivesFact song CommonTempo = IsOfInstrument CommonTempo
GivesFact song FunkTurns = IsOfInstrument FunkTurns
GivesFact song FunkChoice = IsOfInstrument FunkChoice
GivesFact song OwnTimer = DifferInTimer (instrument_at song 1)
GivesFact song OwnWave = DifferInWave (instrument_at song 1)
GivesFact song Subtunes = IsOfInstrument Subtunes
GivesFact song VoiceTwo = IsOfInstrument VoiceTwo
GivesFact song VoiceThree = IsOfInstrument VoiceThree
GivesFact song FirstHolds = HoldsMore (instrument_at song 1)

-- a subtune that stands before this one can be played; it is counted from 0, and this one from 1
pub record IsBehindPlayable (song : Song) (s : ℕ) : Type 0 where
  pub before : ℕ
  pub is_before : before + 1 < s
  pub subtune : Subtune
  pub there : slice_get song.subtunes before ≡ Some subtune
  pub playable : is_playable_subtune subtune ≡ true

-- the byte names a pattern with a row that its voice has to play
pub record NamesHeard (song : Song) (b : ℕ) : Type 0 where
  pub is_pattern : IsPatternByte b
  pub heard : Any IsHeard (pattern_at song b)

-- A byte of this channel's orderlist, in this subtune, gives a song the fact. There are several subtunes where one that
-- can be played stands behind another, so the first place of this fact is the first byte of the second one. Channel 2 or
-- channel 3 has something to play where a byte of its own names a pattern that has.
abbrev pub OrdersGiveFact : Song → Fact → ℕ → ℕ → ℕ → Type 0
OrdersGiveFact song Subtunes = λ s c b. IsBehindPlayable song s
OrdersGiveFact song VoiceTwo = λ s c b. (c ≡ 2) × NamesHeard song b
OrdersGiveFact song VoiceThree = λ s c b. (c ≡ 3) × NamesHeard song b
OrdersGiveFact song fact = λ s c b. ⊥

-- what gives a song the fact
abbrev pub need_of_fact : Song → Fact → Need
need_of_fact song fact = record nothing {
  byte = OrdersGiveFact song fact;
  row = IsOfRow fact;
  instrument = GivesFact song fact;
  wave_row = IsOfWaveRow fact;
}
