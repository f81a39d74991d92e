-- The numbers that small songs ask for, worked out by hand, each of them with no others.
use Rattle.std.specs.Prelude.{ℕ, List, [], ◌∷◌, ◌++◌, ◌↔◌, replicate, Contains}
use Rattle.song_model.specs.declared.songs.Song.{Song}
use Rattle.song_model.specs.Silence.{empty_song}
use Rattle.play_model.specs.WorkedSongs.{subtune, row, sides, plucked, rests, one_note, with_rows}
use Rattle.play_model.specs.WorkedSongs.{with_instrument, low_note}
use Rattle.asked_numbers.specs.Numbers.{IsSoundingNote, IsAskedNumber}

-- these, and no others
abbrev pub AsksFor : Song → List ℕ → Type 0
AsksFor song numbers = (n : ℕ) → IsAskedNumber song n ↔ Contains numbers n

-- The song of one note plays note $90, half tone 48, and its wave program adds nothing to it. The same song with other
-- orderlists of the first two voices,
abbrev pub with_orders : List ℕ → List ℕ → Song
with_orders one two = record one_note { subtunes = subtune one two (1 ∷ []) ∷ [] }

-- with a repeat alone in the first orderlist, and the note in the pattern of that number,
abbrev pub with_repeat : Song
with_repeat = record (with_orders (0xDF ∷ []) (1 ∷ [])) {
  patterns = replicate 0xDF (rests 1) ++ (row 0x90 1 0 0 ∷ []) ∷ [];
}

-- with another note in a pattern that no orderlist names,
abbrev pub with_other_note : Song
with_other_note = record one_note {
  patterns = (row 0x90 1 0 0 ∷ []) ∷ rests 1 ∷ (row 0x70 1 0 0 ∷ []) ∷ [];
}

-- with another first row of its wave table, and a jump behind it,
abbrev pub with_wave : ℕ → ℕ → ℕ → Song
with_wave left right to = record one_note { wave = sides left right ∷ sides 0xFF to ∷ [] }

-- with a rest and this command in place of the note, under a wave program that adds an octave,
abbrev pub with_command : ℕ → Song
with_command command =
    record (with_rows (row 0xBD 0 command 1 ∷ []) one_note) { wave = sides 0x41 0x0C ∷ sides 0xFF 0 ∷ [] }

-- and with a vibrato whose depth has this left side
abbrev pub with_speed : ℕ → Song
with_speed left = record one_note {
  instruments = record plucked { vibrato = 1; vibrato_delay = 1 } ∷ [];
  speed = sides left 0 ∷ [];
}

-- Notes: a keyoff is none. A transpose is one for each pattern of its orderlist, beside none, and not for those of
-- other orderlists; a repeat is none, and no pattern. The lowest note with the lowest transpose has no frequency. A
-- pattern that no orderlist names isn't played, nor a subtune with an empty orderlist.
pub record NotesAreWorked : Type 0 where
  pub one : AsksFor one_note (48 ∷ [])
  pub transposed : AsksFor (with_orders (0xF2 ∷ 0 ∷ []) (1 ∷ [])) (48 ∷ 50 ∷ [])
  pub other_order : AsksFor (with_orders (0 ∷ []) (0xF2 ∷ 1 ∷ [])) (48 ∷ [])
  pub repeat : AsksFor (with_orders (0xDF ∷ 0 ∷ []) (1 ∷ [])) (48 ∷ [])
  pub no_pattern : AsksFor with_repeat []
  pub low : AsksFor low_note (0 ∷ 112 ∷ [])
  pub not_named : AsksFor with_other_note (48 ∷ [])
  pub not_played : AsksFor (with_orders (0 ∷ []) []) []

-- Wave programs: a right side adds to the note, or is a number of its own; $80, a command, a jump and a row that no
-- program comes to set no number, and command 3 slides to the note's.
pub record WaveRowsAreWorked : Type 0 where
  pub added : AsksFor (with_wave 0x41 0x0C 0) (60 ∷ [])
  pub own : AsksFor (with_wave 0x41 0x8C 0) (12 ∷ [])
  pub delay : AsksFor (with_wave 0x0F 0x0C 0) (60 ∷ [])
  pub kept : AsksFor (with_wave 0x41 0x80 0) []
  pub command : AsksFor (with_wave 0xF5 0x0C 0) []
  pub slide : AsksFor (with_wave 0xF3 0x0C 0) (48 ∷ [])
  pub jump : AsksFor (with_wave 0x41 0 1) (48 ∷ [])
  pub not_reached : AsksFor (with_instrument (record plucked { wave = 0 }) one_note) []

-- Before a note: commands 3 and 8 ask for note 0, the one by a slide too, and command 1 doesn't.
pub record StartsAreWorked : Type 0 where
  pub slide : AsksFor (with_command 3) (0 ∷ 12 ∷ [])
  pub wave : AsksFor (with_command 8) (12 ∷ [])
  pub rise : AsksFor (with_command 1) []
  pub not_started : ¬ IsSoundingNote one_note 0

-- Half tones: of a left side from $80 up both ends are asked for, of the last number and of 0, and of another none.
pub record HalfTonesAreWorked : Type 0 where
  pub from_note : AsksFor (with_speed 0x80) (0 ∷ 1 ∷ 48 ∷ 49 ∷ [])
  pub plain : AsksFor (with_speed 0x7F) (48 ∷ [])

pub record NumbersAreWorked : Type 0 where
  pub notes : NotesAreWorked
  pub wave_rows : WaveRowsAreWorked
  pub starts : StartsAreWorked
  pub half_tones : HalfTonesAreWorked
  pub empty : AsksFor empty_song []
