-- Spans that stand one behind the other without a gap.
use Rattle.std.specs.Prelude.{◌≡◌, ℕ, ◌+◌, List, [], ◌∷◌, ◌++◌, length}
use Rattle.image_parts.specs.CodeParts.{always}
use Rattle.player_build.specs.declared.image.PartSpan.{PartSpan}
use Rattle.player_build.specs.Spans.{zero_length, parts_of_spans}

-- from one place up to another
abbrev pub Follow : ℕ → List PartSpan → ℕ → Type 0
Follow from [] to = from ≡ to
Follow from (span ∷ rest) to = (span.start ≡ from) × Follow (from + span.length) rest to

-- a zero at a place
abbrev pub zero_span : ℕ → PartSpan
zero_span start = record { part = always; start = start; length = zero_length }

-- the spans of a code, in which each byte has its part, and behind them those of the two zeros, with so many rows of the
-- speed table between them
pub record AreSpansOf (code : List ℕ) (speeds : ℕ) (spans : List PartSpan) : Type 0 where
  pub front : List PartSpan
  pub follow : Follow 0 front (length code)
  pub parts : parts_of_spans front ≡ code
  pub are : spans ≡ front
      ++ zero_span (length code) ∷ zero_span (length code + zero_length + speeds) ∷ []
