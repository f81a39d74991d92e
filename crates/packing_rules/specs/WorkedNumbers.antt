-- The new numbers of a song's parts, its packed tables and patterns and its sizes, worked out by hand.
use Rattle.std.specs.Prelude.{◌≡◌, ℕ, Bool, List, [], ◌∷◌, map}
use Rattle.song_model.specs.declared.instruments.Instrument.{Instrument}
use Rattle.song_model.specs.declared.tables.TableName.{TableName}
use Rattle.song_model.specs.declared.tables.TableName.TheVariants.{Wave, Pulse, Filter, Speed}
use Rattle.song_model.specs.declared.songs.Song.{Song}
use Rattle.song_model.specs.Silence.{empty_song}
use Rattle.play_model.specs.WorkedSongs.{subtune, row, sides, plucked}
use Rattle.play_model.specs.Playable.{IsPlayable}
use Rattle.packing_rules.specs.Segments.{numbers}
use Rattle.packing_rules.specs.UsedSets.{UsedSets, AreUsedSets}
use Rattle.packing_rules.specs.Renumbering.{speed_rows, wave_programs, pulse_programs, filter_programs, program_rows}
use Rattle.packing_rules.specs.Renumbering.{table_number, instrument_number, pattern_texts, pattern_number}
use Rattle.packing_rules.specs.SongSizes.{data_size, packed_size}
use Rattle.packing_rules.specs.WorkedSizes.{among}

-- an instrument with a program of its own in each table, and a vibrato
abbrev pub swept : Instrument
swept = record plucked { wave = 4; pulse = 4; filter = 2; vibrato = 3; vibrato_delay = 1 }

-- The first subtune is void, so pattern 1 isn't used, nor is instrument 2. Of the second one two channels play patterns
-- that differ in a pulse pointer. Wave rows 1 to 3 and 4 to 6 differ in the pulse program that they name, pulse rows 1
-- and 2 are as rows 4 and 5. Nothing comes to pulse row 3 and filter row 1. Speed row 9 is past the table, so it is as
-- row 2.
abbrev pub crowded_song : Song
crowded_song = record empty_song {
  subtunes = subtune (1 ∷ []) [] (1 ∷ []) ∷ subtune (0 ∷ 4 ∷ []) (2 ∷ []) (3 ∷ []) ∷ [];
  instruments = plucked ∷ plucked ∷ swept ∷ [];
  wave = sides 0x41 0 ∷ sides 0xF9 1 ∷ sides 0xFF 0 ∷ sides 0x41 0 ∷ sides 0xF9 4 ∷ sides 0xFF 0 ∷ sides 0xF1 9
      ∷ sides 0xFF 7 ∷ [];
  pulse = sides 0x88 0 ∷ sides 0xFF 0 ∷ sides 0x21 5 ∷ sides 0x88 0 ∷ sides 0xFF 0 ∷ sides 0x20 0x10 ∷ sides 0xFF 6
      ∷ [];
  filter = sides 0x90 0xF1 ∷ sides 0x90 0xF1 ∷ sides 0 0x20 ∷ sides 0xFF 3 ∷ [];
  speed = sides 3 0x10 ∷ sides 0 0 ∷ sides 1 0x40 ∷ [];
  patterns = (row 0x90 1 0 0 ∷ row 0xBE 0 0 0 ∷ []) ∷ (row 0x90 2 0 0 ∷ [])
      ∷ (row 0x90 3 9 1 ∷ row 0xBD 0 0 0 ∷ []) ∷ (row 0x90 3 9 4 ∷ row 0xBD 0 0 0 ∷ [])
      ∷ (row 0xBD 0 8 7 ∷ row 0x90 1 0xA 2 ∷ row 0x91 0 1 2 ∷ row 0xBD 0 1 2 ∷ row 0x92 1 5 2 ∷ row 0x93 3 9 6 ∷ [])
      ∷ [];
}

-- the rows that programs come to
abbrev pub crowded_rows : TableName → ℕ → Bool
crowded_rows Wave = among (numbers 8)
crowded_rows Pulse = among (1 ∷ 2 ∷ 4 ∷ 5 ∷ 6 ∷ 7 ∷ [])
crowded_rows Filter = among (2 ∷ 3 ∷ 4 ∷ [])
crowded_rows Speed = among (2 ∷ 3 ∷ 9 ∷ [])

-- the rows that instruments, commands and the wave table name
abbrev pub crowded_pointers : TableName → ℕ → Bool
crowded_pointers Wave = among (1 ∷ 4 ∷ 7 ∷ [])
crowded_pointers Pulse = among (1 ∷ 4 ∷ 6 ∷ [])
crowded_pointers Filter = among (2 ∷ [])
crowded_pointers Speed = among (2 ∷ 3 ∷ 9 ∷ [])

abbrev pub crowded_sets : UsedSets
crowded_sets = record {
  patterns = among (0 ∷ 2 ∷ 3 ∷ 4 ∷ []);
  instruments = among (1 ∷ 3 ∷ []);
  reached = crowded_rows;
  pointers = crowded_pointers;
}

-- the song can be played
abbrev pub CrowdedSongCanBePlayed : Type 0
CrowdedSongCanBePlayed = IsPlayable crowded_song

-- the sets are what it uses
abbrev pub CrowdedSetsAreUsed : Type 0
CrowdedSetsAreUsed = AreUsedSets crowded_song crowded_sets

-- ---- tables

abbrev pub new_numbers : TableName → List ℕ → List ℕ
new_numbers name = map (table_number crowded_song crowded_sets name)

-- rows 2 and 9 are (0, 0), and row 3 is the next one; pointer 0 stays 0
abbrev pub SpeedsAreSharedOnce : Type 0
SpeedsAreSharedOnce =
    (speed_rows crowded_song (crowded_pointers Speed) ≡ sides 0 0 ∷ sides 1 0x40 ∷ [])
    × (new_numbers Speed (0 ∷ 2 ∷ 3 ∷ 9 ∷ []) ≡ 0 ∷ 1 ∷ 2 ∷ 1 ∷ [])

-- the second pulse program is the first one, row 3 is left out, and the third program's jump goes to its new first row
abbrev pub PulsesAreStoredOnce : Type 0
PulsesAreStoredOnce =
    (new_numbers Pulse (0 ∷ 1 ∷ 2 ∷ 3 ∷ 4 ∷ 5 ∷ 6 ∷ 7 ∷ []) ≡ 0 ∷ 1 ∷ 2 ∷ 0 ∷ 1 ∷ 2 ∷ 3
    ∷ 4 ∷ [])
    × (program_rows (pulse_programs crowded_song crowded_sets)
    ≡ sides 0x88 0 ∷ sides 0xFF 0 ∷ sides 0x20 0x10 ∷ sides 0xFF 3 ∷ [])

-- row 1 is left out, and the jump to row 3 goes to its new number
abbrev pub FiltersMoveUp : Type 0
FiltersMoveUp = (new_numbers Filter (0 ∷ 1 ∷ 2 ∷ 3 ∷ 4 ∷ []) ≡ 0 ∷ 0 ∷ 1 ∷ 2 ∷ 3 ∷ [])
    × (program_rows (filter_programs crowded_song crowded_sets) ≡ sides 0x90 0xF1 ∷ sides 0 0x20 ∷ sides 0xFF 2 ∷ [])

-- with new pointers into the pulse table the second program is the first one; the pointer past the speed table has its
-- new number
abbrev pub WavesAreStoredOnce : Type 0
WavesAreStoredOnce =
    (new_numbers Wave (0 ∷ 1 ∷ 2 ∷ 3 ∷ 4 ∷ 5 ∷ 6 ∷ 7 ∷ 8 ∷ []) ≡ 0 ∷ 1 ∷ 2 ∷ 3 ∷ 1 ∷ 2
    ∷ 3 ∷ 4 ∷ 5 ∷ [])
    × (program_rows (wave_programs crowded_song crowded_sets)
    ≡ sides 0x41 0 ∷ sides 0xF9 1 ∷ sides 0xFF 0 ∷ sides 0xF1 1 ∷ sides 0xFF 4 ∷ [])

-- ---- instruments and patterns

abbrev pub InstrumentsMoveUp : Type 0
InstrumentsMoveUp = map (instrument_number crowded_song crowded_sets) (0 ∷ 1 ∷ 2 ∷ 3 ∷ []) ≡ 0 ∷ 1 ∷ 0 ∷ 2 ∷ []

-- a song with five instruments, of which the second and the fourth hold the gate and the third the envelope
abbrev pub holding_song : Song
holding_song = record empty_song {
  instruments = plucked ∷ record plucked { gate_timer = 0x42 } ∷ record plucked { gate_timer = 0x82 }
      ∷ record plucked { gate_timer = 0xC2 } ∷ plucked ∷ [];
}

abbrev pub holding_sets : List ℕ → UsedSets
holding_sets instruments = record crowded_sets { instruments = among instruments }

-- All five are used: the last moves up behind the first, before the one that holds the envelope and those that hold
-- the gate. Without the last one the third moves up. A first that holds its gate stays the first.
abbrev pub InstrumentsAreInOrder : Type 0
InstrumentsAreInOrder =
    (map (instrument_number holding_song (holding_sets (1 ∷ 2 ∷ 3 ∷ 4 ∷ 5 ∷ []))) (numbers 5)
    ≡ 1 ∷ 4 ∷ 3 ∷ 5 ∷ 2 ∷ [])
    × (map (instrument_number holding_song (holding_sets (1 ∷ 2 ∷ 3 ∷ 4 ∷ []))) (numbers 5)
    ≡ 1 ∷ 3 ∷ 2 ∷ 4 ∷ 0 ∷ [])
    × (map (instrument_number (record holding_song {
      instruments = record plucked { gate_timer = 0x42 } ∷ plucked ∷ record plucked { gate_timer = 0x82 } ∷ [];
    }) (holding_sets (1 ∷ 2 ∷ 3 ∷ []))) (numbers 3)
    ≡ 1 ∷ 2 ∷ 3 ∷ [])

-- what patterns 0 and 4 pack to, and between them patterns 2 and 3. Commands 8, 9, $A and 1 have new pointers, command 5
-- has its parameter
abbrev pub CrowdedTexts : Type 0
CrowdedTexts = pattern_texts crowded_song crowded_sets
    ≡ (0x01 ∷ 0x90 ∷ 0xBE ∷ 0x00 ∷ [])
    ∷ (0x02 ∷ 0x49 ∷ 0x01 ∷ 0x90 ∷ 0x50 ∷ 0x00 ∷ 0x00 ∷ [])
    ∷ (0x02 ∷ 0x49 ∷ 0x01 ∷ 0x90 ∷ 0x50 ∷ 0x00 ∷ 0x00 ∷ [])
    ∷ (0x58 ∷ 0x04 ∷ 0x01 ∷ 0x4A ∷ 0x01 ∷ 0x90 ∷ 0x41 ∷ 0x01 ∷ 0x91 ∷ 0xC0 ∷ 0x45 ∷ 0x02 ∷ 0x92
    ∷ 0x02 ∷ 0x49 ∷ 0x03 ∷ 0x93 ∷ 0x00 ∷ [])
    ∷ []

-- patterns 2 and 3 share a number
abbrev pub PatternsAreStoredOnce : Type 0
PatternsAreStoredOnce = map (pattern_number crowded_song crowded_sets) (0 ∷ 2 ∷ 3 ∷ 4 ∷ []) ≡ 0 ∷ 1 ∷ 1 ∷ 2 ∷ []

-- ---- sizes

-- orderlists 16, instruments 18, speed rows 4, patterns 6, 9, 9 and 20, rows of the other tables 16, 12 and 6; stored
-- once 9 less for the pattern, 6 for the wave program, 4 for the pulse program
abbrev pub CrowdedSizes : Type 0
CrowdedSizes = (data_size crowded_song crowded_sets ≡ 116) × (packed_size crowded_song crowded_sets ≡ 97)
