-- The parts of the bytes in spans that are worked by hand.
use Rattle.std.proofs.Common.{◌≡◌, ◌⊎◌, ℕ, zero, suc, ◌+◌, ◌<◌, ◌≤◌, [], ◌∷◌, length, inl, inr, refl, ap, ◌∙◌, arith}
use Rattle.std.proofs.lemmas.List.Elements.{All-nil, All-cons, All-contains, All-head}
use Rattle.play_model.specs.State.{no_options}
use Rattle.packed_form.specs.declared.packed_songs.PackedSong.{PackedSong}
use Rattle.song_facts.specs.Facts.{no_facts}
use Rattle.kept_lines.specs.Asked.{asked, asked_by}
use Rattle.kept_lines.specs.KeptLines.{kept_set}
use Rattle.variable_places.specs.Places.{voice_rows, shared_rows, asks, has_byte, voice_labels, other_labels}
use Rattle.variable_places.specs.Places.{free_places, funk_place, variable_count}
use Rattle.image_parts.specs.CodeParts.{code_length}
use Rattle.player_build.specs.declared.image.PartSpan.{PartSpan}
use Rattle.player_build.specs.Spans.{IsNamed, IsNamedAs, NamesEach, IsOfLists}
use Rattle.player_build.specs.WorkedSpans.{three_parts, part_spans, other_spans, SpansAreWorked}
use Rattle.player_build.specs.WorkedSpans.{HasTwoSpeeds, TwoSpeedsAreWorked}

abbrev span_of : ℕ → ℕ → ℕ → PartSpan
span_of part start length = record { part = part; start = start; length = length }

-- the first span names a byte, or the second
in_first : (one two : PartSpan) (byte : ℕ) → one.start ≤ byte → byte < one.start + one.length →
    IsNamedAs (one ∷ two ∷ []) byte one.part
in_first one two byte from below = record {
  named = record { span = one; is_there = (0, omega arith, refl); from = from; below = below };
  part_is = refl;
}

in_second : (one two : PartSpan) (byte : ℕ) → two.start ≤ byte → byte < two.start + two.length →
    IsNamedAs (one ∷ two ∷ []) byte two.part
in_second one two byte from below = record {
  named = record { span = two; is_there = (1, omega arith, refl); from = from; below = below };
  part_is = refl;
}

-- what holds of both spans holds of the one that names a byte
of_both : (one two : PartSpan) (byte : ℕ) (P : PartSpan → Type 0) → P one → P two → (n : IsNamed (one ∷ two ∷ []) byte) →
    P n.span
of_both one two byte P first second n =
    All-contains P (one ∷ two ∷ []) n.span
    (All-cons P one (two ∷ []) first (All-cons P two [] second (All-nil P))) n.is_there

abbrev Misses : ℕ → PartSpan → Type 0
Misses byte span = span.start ≤ byte → byte < span.start + span.length → ⊥

-- a byte outside both spans
in_none : (one two : PartSpan) (byte : ℕ) → Misses byte one → Misses byte two → ¬ IsNamed (one ∷ two ∷ []) byte
in_none one two byte first second n = of_both one two byte (Misses byte) first second n n.from n.below

abbrev HasOther : ℕ → ℕ → PartSpan → Type 0
HasOther byte part span = span.start ≤ byte → byte < span.start + span.length → span.part ≡ part → ⊥

-- a byte that both spans don't name as of a part
not_as : (one two : PartSpan) (byte part : ℕ) → HasOther byte part one → HasOther byte part two →
    ¬ IsNamedAs (one ∷ two ∷ []) byte part
not_as one two byte part first second n =
    of_both one two byte (HasOther byte part) first second n.named n.named.from n.named.below n.part_is

each_part : NamesEach part_spans (three_parts) 3
each_part zero few = in_first (span_of 3 0 2) (span_of 255 2 1) 0 (omega arith) (omega arith)
each_part (suc zero) few = in_first (span_of 3 0 2) (span_of 255 2 1) 1 (omega arith) (omega arith)
each_part (suc (suc zero)) few = in_second (span_of 3 0 2) (span_of 255 2 1) 2 (omega arith) (omega arith)
each_part (suc (suc (suc byte))) few = absurd (omega (arith, few))

all_named : (byte : ℕ) → byte < 3 → IsNamed other_spans byte
all_named zero few = (in_first (span_of 3 0 2) (span_of 4 2 1) 0 (omega arith) (omega arith)).named
all_named (suc zero) few = (in_first (span_of 3 0 2) (span_of 4 2 1) 1 (omega arith) (omega arith)).named
all_named (suc (suc zero)) few = (in_second (span_of 3 0 2) (span_of 4 2 1) 2 (omega arith) (omega arith)).named
all_named (suc (suc (suc byte))) few = absurd (omega (arith, few))

pub spans_are_worked : SpansAreWorked
spans_are_worked = record {
  in_order = (omega arith, (omega arith, tt));
  from_later = λ order. (let first = order.0 in omega (arith, first));
  crossing = λ order. (let second = order.1.0 in omega (arith, second));
  of_spans = refl;
  all = refl;
  part_3 = refl;
  part_255 = refl;
  no_part = refl;
  in_span = (in_first (span_of 3 6 2) (span_of 255 10 1) 7 (omega arith) (omega arith)).named;
  before = in_none (span_of 3 6 2) (span_of 255 10 1) 5 (λ from below. omega arith) (λ from below. omega arith);
  behind = in_none (span_of 3 6 2) (span_of 255 10 1) 8 (λ from below. omega arith) (λ from below. omega arith);
  of_part = in_first (span_of 3 6 2) (span_of 255 10 1) 7 (omega arith) (omega arith);
  of_other =
      not_as (span_of 3 6 2) (span_of 255 10 1) 7 255 (λ from below e. omega arith) (λ from below e. omega arith);
  of_none = not_as (span_of 3 6 2) (span_of 255 10 1) 8 3 (λ from below e. omega arith) (λ from below e. omega arith);
  each = each_part;
  all_named = all_named;
  other_part = λ names.
      not_as (span_of 3 0 2) (span_of 4 2 1) 2 255 (λ from below e. omega arith) (λ from below e. omega arith)
      (names 2 (omega arith));
  no_fourth = λ names.
      in_none (span_of 3 0 2) (span_of 255 2 1) 3 (λ from below. omega arith) (λ from below. omega arith)
      (names 3 (omega arith)).named;
}

-- ---- the lists of an image

-- the numbers between which the lists stand
record Ends (packed : PackedSong) : Type 0 where
  code : code_length (asked_by packed) no_options ≡ 610
  speeds : length packed.speed ≡ 2

-- what the song asks for, and how long its code is
asked_is : (packed : PackedSong) → HasTwoSpeeds packed → asked_by packed ≡ asked 0x402000 no_facts
asked_is packed is = rw (is.features, is.facts) refl

asked_alone : asked 0x402000 no_facts ≡ 0x402000
unfolding asked
asked_alone = refl

code_is : code_length 0x402000 no_options ≡ 610
unfolding kept_set voice_rows shared_rows asks has_byte voice_labels other_labels free_places funk_place variable_count
code_is = refl

ends_of : (packed : PackedSong) → HasTwoSpeeds packed → Ends packed
ends_of packed is = record {
  code = ap (λ set. code_length set no_options) (asked_is packed is ∙ asked_alone) ∙ code_is;
  speeds = is.speed;
}

not_listed : (packed : PackedSong) → Ends packed → (byte : ℕ) → (byte < 609) ⊎ (611 ≤ byte) → byte < 612 →
    ¬ IsOfLists packed no_options byte
not_listed packed ends byte outside below (inl speeds) =
    let code = ends.code in
    let rows = ends.speeds in
    let from = speeds.0 in
    let to = speeds.1 in elim outside [
      | inl low ↦ omega (arith, code, rows, from, to, low)
      | inr high ↦ omega (arith, code, rows, from, to, high)
    ]
not_listed packed ends byte outside below (inr behind) =
    let code = ends.code in
    let rows = ends.speeds in
    omega (arith, code, rows, behind, below)

speed_listed : (packed : PackedSong) → Ends packed → (byte : ℕ) → 609 ≤ byte → byte < 611 →
    IsOfLists packed no_options byte
speed_listed packed ends byte from to =
    let code = ends.code in
    let rows = ends.speeds in
    inl (omega (arith, code, from), omega (arith, code, rows, to))

pub two_speeds_are_worked : TwoSpeedsAreWorked
two_speeds_are_worked packed is =
    let ends = ends_of packed is in record {
      last_code = not_listed packed ends 607 (inl (omega arith)) (omega arith);
      first_zero = not_listed packed ends 608 (inl (omega arith)) (omega arith);
      first_speed = speed_listed packed ends 609 (omega arith) (omega arith);
      last_speed = speed_listed packed ends 610 (omega arith) (omega arith);
      second_zero = not_listed packed ends 611 (inr (omega arith)) (omega arith);
      behind = (let code = ends.code in let rows = ends.speeds in inr (omega (arith, code, rows)));
      no_spans = λ size some names.
          none_there ((names.named 0 some).1 (not_listed packed ends 0 (inl (omega arith)) (omega arith)));
      too_long = λ size span rest past names.
          (let ends_in = All-head (λ (each : PartSpan). each.start + each.length ≤ size) span rest names.inside in
          omega (arith, past, ends_in));
    }
  where
    none_there : IsNamed [] 0 → ⊥
    none_there named = (let there = named.is_there.1 in omega (arith, there))
