-- What two small songs are refused for, and what not, worked out by hand.
use Rattle.std.specs.Prelude.{◌≡◌, ℕ, List, [], ◌∷◌, map, replicate}
use Rattle.song_model.specs.declared.rows.Row.{Row}
use Rattle.song_model.specs.declared.songs.Song.{Song}
use Rattle.song_model.specs.Silence.{empty_song, silence}
use Rattle.play_model.specs.WorkedSongs.{order, subtune, row, sides, plucked, rests, one_note, with_rows}
use Rattle.play_model.specs.WorkedSongs.{with_instrument, with_gate_timer}
use Rattle.song_join.specs.declared.faults.JoinPart.TheVariants.{Subtunes, Instruments, Wave, Pulse, Filter, Speed, Patterns}
use Rattle.song_join.specs.Limits.{sum_of, limit_of, part_number, IsFirstOver}
use Rattle.song_join.specs.Loose.{IsLooseInstrument, IsLooseSpeed, IsFirstPlace}
use Rattle.song_join.specs.Openings.{BeginsUnnamed, IsUnnamedAt}
use Rattle.song_join.specs.Refusals.{TimersDiffer}

-- ---- limits

-- the limits of the format, and the order of the parts
pub record PartsAreLimited : Type 0 where
  pub limits :
      map limit_of (Subtunes ∷ Instruments ∷ Wave ∷ Pulse ∷ Filter ∷ Speed ∷ Patterns ∷ [])
      ≡ 32 ∷ 63 ∷ 255 ∷ 255 ∷ 255 ∷ 255 ∷ 208 ∷ []
  pub order :
      map part_number (Subtunes ∷ Instruments ∷ Wave ∷ Pulse ∷ Filter ∷ Speed ∷ Patterns ∷ [])
      ≡ 0 ∷ 1 ∷ 2 ∷ 3 ∷ 4 ∷ 5 ∷ 6 ∷ []

-- as many instruments, and rows in the speed table
abbrev pub sized : ℕ → ℕ → Song
sized instruments speeds = record empty_song {
  instruments = replicate instruments plucked;
  speed = replicate speeds (sides 0 0);
}

-- 63 instruments are within their limit and 64 are over it; of two parts that are over their limits the first counts,
-- and it counts whole
pub record OversAreFirst : Type 0 where
  pub over : IsFirstOver (sized 60 0) (sized 4 0) Instruments 64
  pub within : ¬ IsFirstOver (sized 60 0) (sized 3 0) Instruments 63
  pub first : IsFirstOver (sized 40 200) (sized 40 200) Instruments 80
  pub later : ¬ IsFirstOver (sized 40 200) (sized 40 200) Speed 400
  pub sum : ¬ IsFirstOver (sized 40 200) (sized 40 200) Instruments 64

-- of the first song void subtunes count too, and of the second those that can be played
abbrev pub VoidSubtunesCount : Type 0
VoidSubtunesCount =
    (sum_of (record empty_song { subtunes = subtune [] (0 ∷ []) (0 ∷ []) ∷ [] }) one_note Subtunes ≡ 2)
    × (sum_of one_note (record empty_song { subtunes = subtune [] (0 ∷ []) (0 ∷ []) ∷ [] }) Subtunes ≡ 1)

-- ---- what isn't stored

-- a song that can be played without any instrument; its instrument 1 has this vibrato
abbrev pub vibrating : ℕ → Song
vibrating row = with_instrument (record plucked { vibrato = row }) one_note

-- instrument 1 is used by each song; one that is stored isn't loose, and neither is one that nothing names
pub record InstrumentsAreLoose : Type 0 where
  pub loose : IsLooseInstrument silence 1
  pub stored : ¬ IsLooseInstrument one_note 1
  pub unused : ¬ IsLooseInstrument silence 2

-- the speed table's row 1 isn't stored, and is where there is one
pub record SpeedsAreLoose : Type 0 where
  pub loose : IsLooseSpeed (vibrating 1) 1
  pub stored : ¬ IsLooseSpeed (record (vibrating 1) { speed = sides 0 0 ∷ [] }) 1

-- 3 and 7 of song 1, and 2 of song 2
pub data IsListed : ℕ → ℕ → Type 0 where
  three : IsListed 1 3
  seven : IsListed 1 7
  two : IsListed 2 2

-- the least song counts, and then the least number
pub record PlacesAreFirst : Type 0 where
  pub first : IsFirstPlace IsListed 1 3
  pub second : ¬ IsFirstPlace IsListed 1 7
  pub later : ¬ IsFirstPlace IsListed 2 2
  pub other : ¬ IsFirstPlace IsListed 1 1

-- ---- timers

-- the low six bits count, and both are told
pub record TimersAreCompared : Type 0 where
  pub differ : TimersDiffer (with_gate_timer 0x42 one_note) (with_gate_timer 0x83 one_note) 2 3
  pub same : ¬ TimersDiffer (with_gate_timer 0x42 one_note) (with_gate_timer 0x82 one_note) 2 2
  pub first : ¬ TimersDiffer (with_gate_timer 0x42 one_note) (with_gate_timer 0x83 one_note) 0x42 3
  pub second : ¬ TimersDiffer (with_gate_timer 0x42 one_note) (with_gate_timer 0x83 one_note) 2 0x83

-- ---- notes before instruments

-- pattern 0 has these rows, and pattern 1 those
abbrev pub two_patterns : List Row → List Row → Song
two_patterns zero one = record one_note { patterns = zero ∷ one ∷ [] }

abbrev pub unnamed_note : List Row
unnamed_note = row 0xBD 0 0 0 ∷ row 0x90 0 0 0 ∷ row 0x90 1 0 0 ∷ []

-- A note without an instrument, behind a rest and in front of an instrument; in a later pattern too. But not where an
-- earlier row names one, or the note's own, or where there is neither.
pub record NotesAreUnnamed : Type 0 where
  pub alone : BeginsUnnamed (with_rows unnamed_note one_note) (order (0 ∷ []))
  pub later : BeginsUnnamed (two_patterns unnamed_note (rests 1)) (order (1 ∷ 0 ∷ []))
  pub own : ¬ BeginsUnnamed one_note (order (0 ∷ []))
  pub earlier : ¬ BeginsUnnamed (two_patterns unnamed_note (row 0xBD 1 0 0 ∷ [])) (order (1 ∷ 0 ∷ []))
  pub neither : ¬ BeginsUnnamed (with_rows (rests 2) one_note) (order (0 ∷ []))

-- subtunes and channels count from 1
pub record UnnamedPlaces : Type 0 where
  pub first : IsUnnamedAt (with_rows unnamed_note one_note) 1 1
  pub other : ¬ IsUnnamedAt (with_rows unnamed_note one_note) 1 4
  pub none : ¬ IsUnnamedAt (with_rows unnamed_note one_note) 0 1
  pub past : ¬ IsUnnamedAt (with_rows unnamed_note one_note) 2 1
