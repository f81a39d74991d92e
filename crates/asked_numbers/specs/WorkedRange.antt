-- The ranges of small songs, worked out by hand, and what are no ranges of theirs.
use Rattle.std.specs.Prelude.{ℕ, [], ◌∷◌}
use Rattle.song_model.specs.declared.songs.Song.{Song}
use Rattle.song_model.specs.Silence.{empty_song}
use Rattle.play_model.specs.WorkedSongs.{sides, one_note, low_note}
use Rattle.asked_numbers.specs.WorkedNumbers.{with_orders, with_wave, with_speed}
use Rattle.asked_numbers.specs.declared.range.NumberRange.{NumberRange}
use Rattle.asked_numbers.specs.Range.{IsInRange, IsNumberRange, AddsNoNumber}

abbrev pub range : ℕ → ℕ → NumberRange
range first count = record { first = first; count = count }

-- half tones 48 and 50, by a transpose
abbrev pub two_notes : Song
two_notes = with_orders (0xF2 ∷ 0 ∷ []) (1 ∷ [])

-- half tones 0, 1, 48 and 49, by a vibrato
abbrev pub half_tones : Song
half_tones = with_speed 0x80

-- the same with number 127 in its wave table: half tones 0, 1, 127 and 128
abbrev pub highest_tones : Song
highest_tones = record half_tones { wave = sides 0x41 0xFF ∷ sides 0xFF 0 ∷ [] }

-- One note; two, with the number between them; none. Number 95, the last with a frequency, and 96 and 127, which have
-- none. The least number and 112. Half tones ask for number 0 too, and for the one after the last: of the highest for
-- 128.
pub record RangesAreWorked : Type 0 where
  pub one : IsNumberRange one_note (range 48 1)
  pub two : IsNumberRange two_notes (range 48 3)
  pub empty : IsNumberRange empty_song (range 0 0)
  pub last : IsNumberRange (with_wave 0x41 0xDF 0) (range 95 1)
  pub first_silent : IsNumberRange (with_wave 0x41 0xE0 0) (range 96 1)
  pub last_silent : IsNumberRange (with_wave 0x41 0xFF 0) (range 127 1)
  pub low : IsNumberRange low_note (range 0 113)
  pub half_tones : IsNumberRange half_tones (range 0 50)
  pub all : IsNumberRange highest_tones (range 0 129)
  -- the ends of a range lie in it
  pub from : IsInRange (range 48 3) 48
  pub to : IsInRange (range 48 3) 50

-- A range one short at its lower end, or at its upper; one that begins, or ends, at the wrong one of the song's
-- numbers; one long at its lower end, or at its upper; one that ends at the last number with a frequency; and of a song
-- that asks for none one with a number, or one that begins elsewhere. The numbers beside a range don't lie in it.
pub record RangesAreDenied : Type 0 where
  pub first_short : ¬ IsNumberRange two_notes (range 49 2)
  pub last_short : ¬ IsNumberRange two_notes (range 48 2)
  pub not_from : ¬ IsNumberRange half_tones (range 48 2)
  pub not_below : ¬ IsNumberRange half_tones (range 0 2)
  pub first_long : ¬ IsNumberRange two_notes (range 47 4)
  pub last_long : ¬ IsNumberRange two_notes (range 48 4)
  pub sounding_alone : ¬ IsNumberRange low_note (range 0 96)
  pub empty_long : ¬ IsNumberRange empty_song (range 0 1)
  pub empty_elsewhere : ¬ IsNumberRange empty_song (range 1 0)
  pub before : ¬ IsInRange (range 48 3) 47
  pub behind : ¬ IsInRange (range 48 3) 51

-- A song adds no number to itself, nor one note to two with the same one, nor silence to one. Two notes add one to one
-- note, and one note adds one to silence.
pub record AddedNumbersAreWorked : Type 0 where
  pub itself : AddsNoNumber one_note one_note
  pub one_of_two : AddsNoNumber two_notes one_note
  pub none : AddsNoNumber one_note empty_song
  pub another : ¬ AddsNoNumber one_note two_notes
  pub first : ¬ AddsNoNumber empty_song one_note
