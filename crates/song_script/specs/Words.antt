-- The words of a script's comments: what a musician calls the parts of a song.
use Rattle.std.specs.Prelude.{ℕ, ◌+◌, ◌-◌, ◌*◌, ◌/◌, ◌%◌, ◌==◌, ◌&&◌, Bool, nat_le}
use Rattle.std.specs.Prelude.{if◌then◌else◌, List, [], ◌∷◌, ◌++◌, map, take, codes, slice_index}
use Rattle.std.specs.List.{list_all, position_or_len}
use Rattle.hex.specs.Hex.{encode_upper, upper_digits}
use Rattle.song_model.specs.declared.rows.Row.{Row}

-- a number below 256 in two digits
abbrev pub two_digits : ℕ → List ℕ
two_digits byte = encode_upper (byte ∷ [])

-- ---- texts

-- nothing but zeros
abbrev pub is_zero_text : List ℕ → Bool
is_zero_text text = list_all (λ byte. byte == 0) text

-- a byte that can be read aloud, or a question mark
abbrev pub readable : ℕ → ℕ
readable byte = if nat_le 0x20 byte && nat_le byte 0x7E then byte else 0x3F

-- the bytes before the first zero
abbrev pub before_zero : List ℕ → List ℕ
before_zero text = take (position_or_len (λ byte. byte == 0) text) text

abbrev pub readable_text : List ℕ → List ℕ
readable_text text = map readable (before_zero text)

-- ---- rows of a pattern

-- the twelve half tones of an octave, two letters each
abbrev pub tone_letters : List ℕ
tone_letters = codes "C-C#D-D#E-F-F#G-G#A-A#B-"

-- the half tone and the digit of the octave; $60 is C-0
abbrev pub tone_words : ℕ → List ℕ
tone_words note = slice_index tone_letters (2 * (note % 12)) ∷ slice_index tone_letters (2 * (note % 12) + 1)
    ∷ (0x30 + (note / 12 - 8)) ∷ []

-- a rest, keyoff and keyon have signs of their own
abbrev pub note_words : ℕ → List ℕ
note_words note =
    if note == 0xBD then codes "..."
    else if note == 0xBE then codes "---"
    else if note == 0xBF then codes "+++"
    else tone_words note

-- the place of the row, its note, its instrument, and its command with its parameter
abbrev pub row_words : ℕ → Row → List ℕ
row_words place row = two_digits place ++ codes "  " ++ note_words row.note ++ codes " " ++ two_digits row.instrument
    ++ codes " " ++ slice_index upper_digits row.command ∷ two_digits row.param
