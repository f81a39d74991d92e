-- The parts of the bytes in spans, their order, and which bytes of an image are its lists, worked by hand.
use Rattle.std.specs.Prelude.{◌≡◌, ℕ, ◌+◌, ◌<◌, List, [], ◌∷◌, length}
use Rattle.play_model.specs.State.{no_options}
use Rattle.song_facts.specs.Facts.{no_facts}
use Rattle.packed_form.specs.declared.packed_songs.PackedSong.{PackedSong}
use Rattle.player_build.specs.declared.image.PartSpan.{PartSpan}
use Rattle.player_build.specs.Spans.{spans_size, part_size, parts_of_spans, IsNamed, IsNamedAs, NamesEach, StandInOrder}
use Rattle.player_build.specs.Spans.{IsOfLists, NamesParts}

-- the bytes 6 and 7, of part 3, and byte 10, of the part that is always kept
abbrev pub two_spans : List PartSpan
two_spans = record { part = 3; start = 6; length = 2 } ∷ record { part = 255; start = 10; length = 1 } ∷ []

-- two bytes of part 3 and one of the part that is always kept
abbrev pub three_parts : List ℕ
three_parts = 3 ∷ 3 ∷ 255 ∷ []

-- these, one behind the other, as spans name them; and with another part for the last one
abbrev pub part_spans : List PartSpan
part_spans = record { part = 3; start = 0; length = 2 } ∷ record { part = 255; start = 2; length = 1 } ∷ []

abbrev pub other_spans : List PartSpan
other_spans = record { part = 3; start = 0; length = 2 } ∷ record { part = 4; start = 2; length = 1 } ∷ []

-- the second of these begins in the first one
abbrev pub crossing_spans : List PartSpan
crossing_spans = record { part = 3; start = 6; length = 5 } ∷ record { part = 255; start = 10; length = 1 } ∷ []

pub record SpansAreWorked : Type 0 where
  pub in_order : StandInOrder 6 two_spans
  pub from_later : ¬ StandInOrder 7 two_spans
  pub crossing : ¬ StandInOrder 0 crossing_spans
  pub of_spans : parts_of_spans two_spans ≡ 3 ∷ 3 ∷ 255 ∷ []
  pub all : spans_size two_spans ≡ 3
  pub part_3 : part_size 3 two_spans ≡ 2
  pub part_255 : part_size 255 two_spans ≡ 1
  pub no_part : part_size 4 two_spans ≡ 0
  -- a byte in a span and those around it; and its part, and others
  pub in_span : IsNamed two_spans 7
  pub before : ¬ IsNamed two_spans 5
  pub behind : ¬ IsNamed two_spans 8
  pub of_part : IsNamedAs two_spans 7 3
  pub of_other : ¬ IsNamedAs two_spans 7 255
  pub of_none : ¬ IsNamedAs two_spans 8 3
  -- each byte of the three: all are named by the other spans too, but not with their parts; and no span has a fourth
  pub each : NamesEach part_spans (three_parts) 3
  pub all_named : (byte : ℕ) → byte < 3 → IsNamed other_spans byte
  pub other_part : ¬ NamesEach other_spans (three_parts) 3
  pub no_fourth : ¬ NamesEach part_spans (three_parts) 4

-- ---- the lists of an image

-- wave and pulse programs, two rows in the speed table, and no fact: the code takes 610 bytes with the zeros
pub record HasTwoSpeeds (packed : PackedSong) : Type 0 where
  pub features : packed.features.0 ≡ 0x402000
  pub facts : packed.facts ≡ no_facts
  pub speed : length packed.speed ≡ 2

-- behind the first zero two bytes are of the lists, the second zero isn't, and all behind it are
pub record ListsAreWorked (packed : PackedSong) : Type 0 where
  pub last_code : ¬ IsOfLists packed no_options 607
  pub first_zero : ¬ IsOfLists packed no_options 608
  pub first_speed : IsOfLists packed no_options 609
  pub last_speed : IsOfLists packed no_options 610
  pub second_zero : ¬ IsOfLists packed no_options 611
  pub behind : IsOfLists packed no_options 612
  -- no spans name the parts of an image, and none that reach behind it
  pub no_spans : (size : ℕ) → 0 < size → ¬ NamesParts packed no_options size []
  pub too_long : (size : ℕ) (span : PartSpan) (rest : List PartSpan) → size < span.start + span.length →
      ¬ NamesParts packed no_options size (span ∷ rest)

abbrev pub TwoSpeedsAreWorked : Type 0
TwoSpeedsAreWorked = (packed : PackedSong) → HasTwoSpeeds packed → ListsAreWorked packed
