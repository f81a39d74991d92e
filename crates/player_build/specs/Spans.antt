-- Which bytes of an image belong to which part of the player. This is the project's own player.
use Rattle.std.specs.Prelude.{◌≡◌, ℕ, ◌+◌, ◌-◌, ◌<◌, ◌≤◌, ◌⊎◌, ◌↔◌, List, []}
use Rattle.std.specs.Prelude.{◌∷◌, ◌++◌, All, Contains, flat_map, replicate, slice_index, sum_by, length}
use Rattle.std.specs.Prelude.{◌==◌, if◌then◌else◌}
use Rattle.play_model.specs.declared.options.Options.{Options}
use Rattle.packed_form.specs.declared.packed_songs.PackedSong.{PackedSong}
use Rattle.player_image.specs.Images.{image_count}
use Rattle.kept_lines.specs.Asked.{asked_by}
use Rattle.image_parts.specs.CodeParts.{always, code_parts, code_length, zero_bytes, part_length}
use Rattle.image_parts.specs.Lengths.{slide_bytes, read_of, frequency_bytes}
use Rattle.player_build.specs.declared.image.PartSpan.{PartSpan}

-- each span begins where the one before it ends, or behind that, the first at a place or behind it
abbrev pub StandInOrder : ℕ → List PartSpan → Type 0
StandInOrder from [] = Unit {0}
StandInOrder from (span ∷ rest) = (from ≤ span.start) × StandInOrder (span.start + span.length) rest

-- how many bytes all spans have, and those of one part
abbrev pub spans_size : List PartSpan → ℕ
spans_size spans = sum_by (λ (span : PartSpan). span.length) spans

abbrev pub part_size : ℕ → List PartSpan → ℕ
part_size part spans = sum_by (λ (span : PartSpan). if span.part == part then span.length else 0) spans

-- the part of each byte that spans name, in order
abbrev pub parts_of_spans : List PartSpan → List ℕ
parts_of_spans spans = flat_map (λ (span : PartSpan). replicate span.length span.part) spans

-- a byte of the image, counted from 0, is in one of the spans
pub record IsNamed (spans : List PartSpan) (byte : ℕ) : Type 0 where
  pub span : PartSpan
  pub is_there : Contains spans span
  pub from : span.start ≤ byte
  pub below : byte < span.start + span.length

-- and this is its part
pub record IsNamedAs (spans : List PartSpan) (byte part : ℕ) : Type 0 where
  pub named : IsNamed spans byte
  pub part_is : named.span.part ≡ part

-- each byte below a number is of the part that stands for it in a list
abbrev pub NamesEach : List PartSpan → List ℕ → ℕ → Type 0
NamesEach spans parts count = (byte : ℕ) → byte < count → IsNamedAs spans byte (slice_index parts byte)

-- a 0 stands behind the code, in front of the right sides of the speed table, and one behind these, in front of the left
-- ones
abbrev pub zero_length : ℕ
zero_length = 1

-- a byte is one of the song's lists: behind the first zero the right sides of the speed table, and behind the second one
-- all the rest
abbrev pub IsOfLists : PackedSong → Options → ℕ → Type 0
IsOfLists packed options byte =
    ((code_length (asked_by packed) options - zero_length ≤ byte)
    × (byte < code_length (asked_by packed) options - zero_length + length packed.speed))
    ⊎ (code_length (asked_by packed) options + length packed.speed ≤ byte)

-- the two entries of three bytes and the variables behind them, and the two zeros, are of the part that is always kept
pub record NamesCommon (packed : PackedSong) (options : Options) (spans : List PartSpan) : Type 0 where
  pub front : (byte : ℕ) → byte < 6 + image_count packed options → IsNamedAs spans byte always
  pub first_zero : IsNamedAs spans (code_length (asked_by packed) options - zero_bytes) always
  pub second_zero :
      IsNamedAs spans (code_length (asked_by packed) options - zero_length + length packed.speed) always

-- the bytes of the song's lists: what is read of the packed song, its slides, and its frequencies with their gap
abbrev pub song_bytes : PackedSong → ℕ
song_bytes packed =
    read_of packed + slide_bytes (asked_by packed) (length packed.speed)
    + frequency_bytes packed.numbers (read_of packed)

-- the spans are in order, don't overlap, and end within the image; a byte of the image is in one exactly where it isn't of
-- the song's lists; the parts of the bytes in them, in order, are those of the code, and behind these that which is always
-- kept, once for each zero; so each byte of the code is of its own part; entries, variables and zeros are of that which is
-- always kept; and each part has its length
pub record NamesParts (packed : PackedSong) (options : Options) (size : ℕ) (spans : List PartSpan) : Type 0 where
  pub in_order : StandInOrder 0 spans
  pub inside : All (λ (span : PartSpan). span.start + span.length ≤ size) spans
  pub named : (byte : ℕ) → byte < size → IsNamed spans byte ↔ (IsOfLists packed options byte → ⊥)
  pub add_up : spans_size spans + song_bytes packed ≡ size
  pub in_parts : parts_of_spans spans ≡ code_parts (asked_by packed) options ++ replicate zero_bytes always
  pub in_code : NamesEach spans (code_parts (asked_by packed) options) (length (code_parts (asked_by packed) options))
  pub common : NamesCommon packed options spans
  pub parts : (part : ℕ) → part_size part spans ≡ part_length (asked_by packed) options part
