-- First places of small songs, worked out by hand, each with places beside it that aren't the first; those of parts
-- that several features or facts have in common; and the order of places.
use Rattle.std.specs.Prelude.{ℕ, ◌≤◌, [], ◌∷◌}
use Rattle.song_model.specs.declared.features.Feature.TheVariants.{Transpose, PortaUp, InstrumentVibrato, FilterTable}
use Rattle.song_model.specs.declared.features.Feature.TheVariants.{WaveTable, WaveCommand}
use Rattle.song_model.specs.declared.songs.Song.{Song}
use Rattle.song_model.specs.LookUp.{zero_instrument}
use Rattle.song_model.specs.Silence.{empty_song, rest_row}
use Rattle.play_model.specs.WorkedSongs.{subtune, row, sides, other_vibrato}
use Rattle.song_facts.specs.declared.facts.Fact.TheVariants.{RowSlide, FirstMask, GateNote, NotePulse, NoteFilter}
use Rattle.song_facts.specs.declared.facts.Fact.TheVariants.{OwnTimer, OwnWave, Subtunes, VoiceTwo, VoiceThree}
use Rattle.song_facts.specs.declared.facts.Fact.TheVariants.{FirstHolds}
use Rattle.player_memory.specs.declared.conditions.TheConstants.{PORTA_UP, SKIP_EFFECTS, CLIMB, FOUND_NOTE, ROW_SLIDE}
use Rattle.player_memory.specs.declared.conditions.TheConstants.{ROW_COMMAND, SPECIAL_ROW, EFFECTS, FILTER_USED}
use Rattle.song_places.specs.declared.places.Place.{Place}
use Rattle.song_places.specs.declared.places.Place.TheVariants.{InOrder, InPattern, InInstrument, InWaveTable}
use Rattle.song_places.specs.Needs.{NamesHeard}
use Rattle.song_places.specs.Places.{NeedsAt, NeedsFactAt, IsNotAfter, IsFirstPlace, IsFirstFactPlace}
use Rattle.song_places.specs.PartPlaces.{NeedsFor, IsPartPlace}

-- the first subtune has an empty orderlist, so it isn't played, nor are pattern 0 and instrument 2 used; in the second
-- one channels 2 and 3 have a transpose each, and pattern 2 names instrument 3 and has a keyoff and a keyon; instruments
-- 2 and 3 have another gateoff timer and another first waveform than instrument 1
abbrev pub crossing : Song
crossing = record empty_song {
  subtunes = subtune (0xE1 ∷ 0 ∷ []) [] (0 ∷ [])
      ∷ subtune (1 ∷ []) (1 ∷ 0xF0 ∷ 1 ∷ []) (0xE2 ∷ 2 ∷ []) ∷ [];
  patterns = (row 0x90 2 1 0 ∷ row 0xBE 0 0 0 ∷ []) ∷ (rest_row ∷ row 0xBD 0 1 0 ∷ row 0xBD 0 1 0 ∷ [])
      ∷ (row 0x90 3 1 0 ∷ row 0xBE 0 0 0 ∷ row 0xBF 0 0 0 ∷ []) ∷ [];
  instruments = (record zero_instrument { wave = 1 }) ∷ (record zero_instrument { filter = 1; gate_timer = 2; first_wave = 0xFE })
      ∷ (record zero_instrument { filter = 1; gate_timer = 2; first_wave = 0xFE }) ∷ [];
  wave = sides 0x41 0 ∷ sides 0xF1 0 ∷ sides 0xFF 0 ∷ [];
  filter = sides 0x90 0 ∷ sides 0xFF 0 ∷ [];
}

-- a transpose in an orderlist that isn't played is none, and one in channel 3 is later
pub record TransposesAreWorked : Type 0 where
  pub first : IsFirstPlace crossing Transpose (InOrder 2 2 1)
  pub unplayed : ¬ NeedsAt crossing Transpose (InOrder 1 1 0)
  pub later : NeedsAt crossing Transpose (InOrder 2 3 0)
  pub not_first : ¬ IsFirstPlace crossing Transpose (InOrder 2 3 0)

-- the command in a pattern that isn't used is none; the next row, the next pattern and the wave table are later
pub record PortamentosAreWorked : Type 0 where
  pub first : IsFirstPlace crossing PortaUp (InPattern 1 1)
  pub unused : ¬ NeedsAt crossing PortaUp (InPattern 0 0)
  pub next_row : ¬ IsFirstPlace crossing PortaUp (InPattern 1 2)
  pub next_pattern : ¬ IsFirstPlace crossing PortaUp (InPattern 2 0)
  pub in_wave_table : NeedsAt crossing PortaUp (InWaveTable 2)
  pub wave_table : ¬ IsFirstPlace crossing PortaUp (InWaveTable 2)

-- the pointer of an instrument that isn't used is no filter's place, nor is a portamento; instrument 1 is used by each
-- song, so its wave program is the first; and the jump behind a command of the wave table isn't the command's
pub record TablesAreWorked : Type 0 where
  pub first : IsFirstPlace crossing FilterTable (InInstrument 3)
  pub unused : ¬ NeedsAt crossing FilterTable (InInstrument 2)
  pub no_row : ¬ NeedsAt crossing FilterTable (InPattern 1 1)
  pub wave : IsFirstPlace crossing WaveTable (InInstrument 1)
  pub command : IsFirstPlace crossing WaveCommand (InWaveTable 2)
  pub jump : ¬ NeedsAt crossing WaveCommand (InWaveTable 3)

-- instrument 1 has a vibrato delay and no parameter, instrument 2 a parameter and no delay, and both are used: the
-- place is that of the parameter
pub record VibratosAreWorked : Type 0 where
  pub first : IsFirstPlace (other_vibrato 5) InstrumentVibrato (InInstrument 2)
  pub delay : ¬ NeedsAt (other_vibrato 5) InstrumentVibrato (InInstrument 1)

-- ---- facts

-- the keyoff in a pattern that isn't used is none, nor is a note, and a keyon in the next row is later
pub record GateNotesAreWorked : Type 0 where
  pub first : IsFirstFactPlace crossing GateNote (InPattern 2 1)
  pub unused : ¬ NeedsFactAt crossing GateNote (InPattern 0 1)
  pub note : ¬ NeedsFactAt crossing GateNote (InPattern 2 0)
  pub later : NeedsFactAt crossing GateNote (InPattern 2 2)
  pub not_first : ¬ IsFirstFactPlace crossing GateNote (InPattern 2 2)

-- a command of the wave table is no row's; instrument 1 is used by each song, and its first waveform is 0, and that of
-- an instrument that isn't used is a mask, as is that of a later one, which begins the filter program and no pulse
-- program
pub record FactsAreWorked : Type 0 where
  pub slide : IsFirstFactPlace crossing RowSlide (InPattern 1 1)
  pub next_row : ¬ IsFirstFactPlace crossing RowSlide (InPattern 1 2)
  pub in_wave_table : ¬ NeedsFactAt crossing RowSlide (InWaveTable 2)
  pub mask : IsFirstFactPlace crossing FirstMask (InInstrument 1)
  pub unused : ¬ NeedsFactAt crossing FirstMask (InInstrument 2)
  pub later : NeedsFactAt crossing FirstMask (InInstrument 3)
  pub not_first : ¬ IsFirstFactPlace crossing FirstMask (InInstrument 3)
  pub filter : IsFirstFactPlace crossing NoteFilter (InInstrument 3)
  pub unused_filter : ¬ NeedsFactAt crossing NoteFilter (InInstrument 2)
  pub no_pulse : ¬ NeedsFactAt crossing NotePulse (InInstrument 3)

-- Two instruments differ where one that is used differs from instrument 1, which never gives the fact itself; nor does
-- one that isn't used. Where the first waveforms differ, the gateoff timers may be one.
pub record PairsAreWorked : Type 0 where
  pub timer : IsFirstFactPlace crossing OwnTimer (InInstrument 3)
  pub unused_timer : ¬ NeedsFactAt crossing OwnTimer (InInstrument 2)
  pub no_first_timer : (song : Song) → ¬ NeedsFactAt song OwnTimer (InInstrument 1)
  pub wave : IsFirstFactPlace crossing OwnWave (InInstrument 3)
  pub unused_wave : ¬ NeedsFactAt crossing OwnWave (InInstrument 2)
  pub no_first_wave : (song : Song) → ¬ NeedsFactAt song OwnWave (InInstrument 1)
  pub other_wave : NeedsFactAt (other_vibrato 5) OwnWave (InInstrument 2)
  pub same_timer : ¬ NeedsFactAt (other_vibrato 5) OwnTimer (InInstrument 2)

-- pattern 0 names instruments 2 and 3, and the three have these gateoff timers
abbrev pub holding : ℕ → ℕ → ℕ → Song
holding one two three = record empty_song {
  subtunes = subtune (0 ∷ []) (0 ∷ []) (0 ∷ []) ∷ [];
  patterns = (row 0x90 2 0 0 ∷ row 0x90 3 0 0 ∷ []) ∷ [];
  instruments = record zero_instrument { gate_timer = one } ∷ record zero_instrument { gate_timer = two }
      ∷ record zero_instrument { gate_timer = three } ∷ [];
}

-- Instrument 1 holds its gate, and the next its envelope, or it holds its envelope, and the next nothing: the place is
-- that of the first used instrument that holds less. One that holds as much is none, though its timer is another one,
-- nor one that holds more; nor is an instrument that isn't used, instrument 1 itself, or the row that names one.
pub record HoldsAreWorked : Type 0 where
  pub gate : IsFirstFactPlace (holding 0x42 0x82 0x02) FirstHolds (InInstrument 2)
  pub envelope : IsFirstFactPlace (holding 0x82 0x02 0x82) FirstHolds (InInstrument 2)
  pub next : NeedsFactAt (holding 0x42 0x82 0x02) FirstHolds (InInstrument 3)
  pub not_next : ¬ IsFirstFactPlace (holding 0x42 0x82 0x02) FirstHolds (InInstrument 3)
  pub behind : IsFirstFactPlace (holding 0x42 0xC3 0x82) FirstHolds (InInstrument 3)
  pub as_much : ¬ NeedsFactAt (holding 0x42 0xC3 0x82) FirstHolds (InInstrument 2)
  pub other_timer : NeedsFactAt (holding 0x42 0xC3 0x82) OwnTimer (InInstrument 2)
  pub more : ¬ NeedsFactAt (holding 0x82 0x42 0x02) FirstHolds (InInstrument 2)
  pub nowhere : (place : Place) → ¬ NeedsFactAt (holding 0x82 0x42 0x83) FirstHolds place
  pub unused : ¬ NeedsFactAt (holding 0x42 0x82 0x02) FirstHolds (InInstrument 4)
  pub no_first : (song : Song) → ¬ NeedsFactAt song FirstHolds (InInstrument 1)
  pub no_row : ¬ NeedsFactAt (holding 0x42 0x82 0x02) FirstHolds (InPattern 0 0)

-- the second of these subtunes and the fourth can be played
abbrev pub several : Song
several = record crossing {
  subtunes = subtune (0xE1 ∷ 0 ∷ []) [] (0 ∷ []) ∷ subtune (1 ∷ []) (1 ∷ []) (1 ∷ [])
      ∷ subtune (1 ∷ []) (1 ∷ []) [] ∷ subtune (1 ∷ 1 ∷ []) (1 ∷ []) (1 ∷ []) ∷ [];
}

-- There are several subtunes from the first byte on of the second one that can be played; its next byte and its next
-- orderlist are later. The first one that can be played gives no such fact, nor does one that can't be; and where one
-- alone can be played, nothing does.
pub record SubtunesAreWorked : Type 0 where
  pub first : IsFirstFactPlace several Subtunes (InOrder 4 1 0)
  pub next_byte : NeedsFactAt several Subtunes (InOrder 4 1 1)
  pub not_next_byte : ¬ IsFirstFactPlace several Subtunes (InOrder 4 1 1)
  pub next_order : NeedsFactAt several Subtunes (InOrder 4 2 0)
  pub not_next_order : ¬ IsFirstFactPlace several Subtunes (InOrder 4 2 0)
  pub first_subtune : ¬ NeedsFactAt several Subtunes (InOrder 2 1 0)
  pub unplayable : ¬ NeedsFactAt several Subtunes (InOrder 3 1 0)
  pub one_alone : (place : Place) → ¬ NeedsFactAt crossing Subtunes place

-- The first of these subtunes can't be played. Pattern 0 rests, pattern 1 has a note, and pattern 2 a command alone;
-- channel 2 names the note behind the rest, and channel 3 the command behind a transpose and a repeat.
abbrev pub sounding : Song
sounding = record empty_song {
  subtunes = subtune (1 ∷ []) (1 ∷ []) [] ∷ subtune (1 ∷ []) (0 ∷ 1 ∷ 1 ∷ []) (0xF1 ∷ 0xD2 ∷ 2 ∷ []) ∷ [];
  patterns = (rest_row ∷ []) ∷ (rest_row ∷ row 0x90 1 0 0 ∷ []) ∷ (row 0xBD 0 5 0 ∷ []) ∷ [];
}

-- What a channel has to play begins with the byte that names it, and the next such byte is later. A byte that names a
-- rest is none, nor is one of another channel or of a subtune that can't be played, nor the row itself; and in no song
-- does a repeat or a transpose name a pattern.
pub record VoicesAreWorked : Type 0 where
  pub two : IsFirstFactPlace sounding VoiceTwo (InOrder 2 2 1)
  pub rest : ¬ NeedsFactAt sounding VoiceTwo (InOrder 2 2 0)
  pub next_byte : NeedsFactAt sounding VoiceTwo (InOrder 2 2 2)
  pub not_next_byte : ¬ IsFirstFactPlace sounding VoiceTwo (InOrder 2 2 2)
  pub of_one : ¬ NeedsFactAt sounding VoiceTwo (InOrder 2 1 0)
  pub of_three : ¬ NeedsFactAt sounding VoiceTwo (InOrder 2 3 2)
  pub unplayable : ¬ NeedsFactAt sounding VoiceTwo (InOrder 1 2 0)
  pub no_row : ¬ NeedsFactAt sounding VoiceTwo (InPattern 1 1)
  pub three : IsFirstFactPlace sounding VoiceThree (InOrder 2 3 2)
  pub of_two : ¬ NeedsFactAt sounding VoiceThree (InOrder 2 2 1)
  pub no_transpose : ¬ NeedsFactAt sounding VoiceThree (InOrder 2 3 0)
  pub no_repeat : ¬ NeedsFactAt sounding VoiceThree (InOrder 2 3 1)
  pub no_pattern : (song : Song) (b : ℕ) → 0xD0 ≤ b → ¬ NamesHeard song b

-- ---- what features have in common

-- pattern 0 has a command in its second row, and pattern 1 another in its first, each with row 1 of the speed table
abbrev pub sliding : ℕ → ℕ → Song
sliding one two = record empty_song {
  subtunes = subtune (0 ∷ []) (1 ∷ []) (1 ∷ []) ∷ [];
  patterns = (rest_row ∷ row 0xBD 0 one 1 ∷ []) ∷ (row 0xBD 0 two 1 ∷ []) ∷ [];
  speed = sides 0 0x20 ∷ [];
}

-- The high byte climbs for a tone portamento and for a portamento up, so the first place of either is that of the part,
-- and a later one isn't, whichever stands first. A tone portamento comes to its note, and a portamento up to none; what
-- a portamento up has alone no tone portamento needs; and nothing in a song needs what an option keeps.
pub record CommonPlacesAreWorked : Type 0 where
  pub tone_first : IsPartPlace (sliding 3 1) CLIMB (InPattern 0 1)
  pub up_later : NeedsFor (sliding 3 1) CLIMB (InPattern 1 0)
  pub not_up : ¬ IsPartPlace (sliding 3 1) CLIMB (InPattern 1 0)
  pub up_first : IsPartPlace (sliding 1 3) CLIMB (InPattern 0 1)
  pub tone_later : NeedsFor (sliding 1 3) CLIMB (InPattern 1 0)
  pub not_tone : ¬ IsPartPlace (sliding 1 3) CLIMB (InPattern 1 0)
  pub note : IsPartPlace (sliding 1 3) FOUND_NOTE (InPattern 1 0)
  pub no_note : ¬ NeedsFor (sliding 1 3) FOUND_NOTE (InPattern 0 1)
  pub not_own : ¬ NeedsFor (sliding 3 1) PORTA_UP (InPattern 0 1)
  pub no_option : (place : Place) → ¬ NeedsFor (sliding 1 3) SKIP_EFFECTS place

-- ---- what facts have in common

-- instrument 1, which each song uses, has a wave program with these two left sides
abbrev pub waving : ℕ → ℕ → Song
waving one two = record empty_song {
  instruments = record zero_instrument { wave = 1 } ∷ [];
  wave = sides one 0 ∷ sides two 0 ∷ sides 0xFF 0 ∷ [];
}

-- A row has a command, one that is done once or one that runs, so the first place of either is that of the part,
-- whichever stands first; what those that run have alone the other doesn't need.
pub record RowPlacesAreWorked : Type 0 where
  pub once_first : IsPartPlace (sliding 5 1) ROW_COMMAND (InPattern 0 1)
  pub slide_later : NeedsFor (sliding 5 1) ROW_COMMAND (InPattern 1 0)
  pub not_slide : ¬ IsPartPlace (sliding 5 1) ROW_COMMAND (InPattern 1 0)
  pub slide_first : IsPartPlace (sliding 1 5) ROW_COMMAND (InPattern 0 1)
  pub once_later : NeedsFor (sliding 1 5) ROW_COMMAND (InPattern 1 0)
  pub not_once : ¬ IsPartPlace (sliding 1 5) ROW_COMMAND (InPattern 1 0)
  pub not_own : ¬ NeedsFor (sliding 5 1) ROW_SLIDE (InPattern 0 1)

-- And a row of the wave table is special for a delay, which is a fact, or a command, which is a feature; a waveform and
-- a jump aren't.
pub record WavePlacesAreWorked : Type 0 where
  pub delay_first : IsPartPlace (waving 0x0F 0xF1) SPECIAL_ROW (InWaveTable 1)
  pub command_later : NeedsFor (waving 0x0F 0xF1) SPECIAL_ROW (InWaveTable 2)
  pub not_command : ¬ IsPartPlace (waving 0x0F 0xF1) SPECIAL_ROW (InWaveTable 2)
  pub command_first : IsPartPlace (waving 0xF1 0x0F) SPECIAL_ROW (InWaveTable 1)
  pub delay_later : NeedsFor (waving 0xF1 0x0F) SPECIAL_ROW (InWaveTable 2)
  pub not_delay : ¬ IsPartPlace (waving 0xF1 0x0F) SPECIAL_ROW (InWaveTable 2)
  pub waveform : ¬ NeedsFor crossing SPECIAL_ROW (InWaveTable 1)
  pub behind : IsPartPlace crossing SPECIAL_ROW (InWaveTable 2)
  pub jump : ¬ NeedsFor crossing SPECIAL_ROW (InWaveTable 3)

-- What sets the filter is a program, which an instrument or a command names, or one of two commands, so the place is
-- the first of these; a volume doesn't set it. And an effect runs for a command from 1 to 4, but not for one that is
-- done once.
pub record FilterPlacesAreWorked : Type 0 where
  pub program : IsPartPlace crossing FILTER_USED (InInstrument 3)
  pub cutoff_first : IsPartPlace (sliding 0xC 0xB) FILTER_USED (InPattern 0 1)
  pub control_later : NeedsFor (sliding 0xC 0xB) FILTER_USED (InPattern 1 0)
  pub not_control : ¬ IsPartPlace (sliding 0xC 0xB) FILTER_USED (InPattern 1 0)
  pub volume : ¬ NeedsFor (sliding 0xD 0xB) FILTER_USED (InPattern 0 1)
  pub tone_first : IsPartPlace (sliding 3 1) EFFECTS (InPattern 0 1)
  pub slide_later : NeedsFor (sliding 5 1) EFFECTS (InPattern 1 0)
  pub not_once : ¬ NeedsFor (sliding 5 1) EFFECTS (InPattern 0 1)

-- ---- the order

abbrev pub ComesBefore : Place → Place → Type 0
ComesBefore place other = IsNotAfter place other × ¬ IsNotAfter other place

-- orderlists come before patterns, these before instruments, and the wave table last; subtunes come before channels and
-- these before entries, patterns before rows, and numbers ascend
pub record PlacesInOrder : Type 0 where
  pub orderlists : ComesBefore (InOrder 9 3 9) (InPattern 0 0)
  pub before_instruments : ComesBefore (InPattern 9 9) (InInstrument 1)
  pub before_tables : ComesBefore (InInstrument 63) (InWaveTable 1)
  pub subtunes : ComesBefore (InOrder 1 3 0) (InOrder 2 1 0)
  pub channels : ComesBefore (InOrder 1 1 4) (InOrder 1 2 3)
  pub entries : ComesBefore (InOrder 1 1 3) (InOrder 1 1 4)
  pub patterns : ComesBefore (InPattern 1 4) (InPattern 2 3)
  pub rows : ComesBefore (InPattern 1 3) (InPattern 1 4)
  pub instruments : ComesBefore (InInstrument 1) (InInstrument 2)
  pub wave_rows : ComesBefore (InWaveTable 3) (InWaveTable 4)
