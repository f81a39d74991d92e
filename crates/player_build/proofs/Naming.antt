-- Which bytes are in spans, and of which part.
use Rattle.std.proofs.Common.{◌≡◌, ℕ, zero, suc, ◌+◌, ◌-◌, ◌<◌, ◌≤◌, ◌⊎◌, List, []}
use Rattle.std.proofs.Common.{◌∷◌, ◌++◌, All, length, replicate, get_or, refl, sym, ap, ◌∙◌, arith, inl}
use Rattle.std.proofs.Common.{inr, subst}
use Rattle.std.specs.Prelude.{slice_index, slice_index_or}
use Rattle.std.proofs.lemmas.Bool.{cases_lt}
use Rattle.std.proofs.lemmas.List.{length-append, length-replicate, get_or-replicate, get_or_append_left, get_or-append_right}
use Rattle.std.proofs.lemmas.List.Elements.{All-nil, All-cons, Contains-append_left, Contains-append_right}
use Rattle.std.proofs.lemmas.List.Elements.{Contains-append_cases}
use Rattle.play_model.specs.declared.options.Options.{Options}
use Rattle.scope_lines.specs.Readings.{holds_in}
use Rattle.kept_lines.specs.KeptLines.{kept_set}
use Rattle.variable_places.specs.Places.{variable_count}
use Rattle.image_parts.specs.CodeParts.{always, front_bytes, code_parts, zero_bytes}
use Rattle.player_build.specs.declared.image.PartSpan.{PartSpan}
use Rattle.player_build.specs.Joined.{Follow, zero_span}
use Rattle.player_build.specs.Spans.{zero_length, parts_of_spans, IsNamed, IsNamedAs, spans_size}
use Rattle.player_build.proofs.Joining.{named_behind, follows_size}

-- ---- in one of two lists

pub named_left : (front back : List PartSpan) (byte : ℕ) → IsNamed front byte → IsNamed (front ++ back) byte
named_left front back byte n = record {
  span = n.span;
  is_there = Contains-append_left front back n.span n.is_there;
  from = n.from;
  below = n.below;
}

pub named_right : (front back : List PartSpan) (byte : ℕ) → IsNamed back byte → IsNamed (front ++ back) byte
named_right front back byte n = record {
  span = n.span;
  is_there = Contains-append_right front back n.span n.is_there;
  from = n.from;
  below = n.below;
}

named_split : (front back : List PartSpan) (byte : ℕ) → IsNamed (front ++ back) byte →
    IsNamed front byte ⊎ IsNamed back byte
named_split front back byte n =
    elim (Contains-append_cases front back n.span n.is_there) [
      | inl a ↦ let there = a in inl record { span = n.span; is_there = there; from = n.from; below = n.below }
      | inr b ↦ let there = b in inr record { span = n.span; is_there = there; from = n.from; below = n.below }
    ]

named_cases : (span : PartSpan) (spans : List PartSpan) (byte : ℕ) → IsNamed (span ∷ spans) byte →
    ((span.start ≤ byte) × (byte < span.start + span.length)) ⊎ IsNamed spans byte
named_cases span spans byte n = by n.is_there.0 n.span n.is_there.1 n.is_there.2 n.from n.below
  where
    less : (a b : ℕ) → suc a < suc b → a < b
    less a b h = omega (arith, h)

    by : (i : ℕ) (s : PartSpan) → i < length (span ∷ spans) → slice_index_or (span ∷ spans) i s ≡ s → s.start ≤ byte →
        byte < s.start + s.length → ((span.start ≤ byte) × (byte < span.start + span.length)) ⊎ IsNamed spans byte
    by zero s few is from below = inl (
      subst (λ (q : PartSpan). q.start ≤ byte) (sym is) from,
      subst (λ (q : PartSpan). byte < q.start + q.length) (sym is) below,
    )
    by (suc i) s few is from below =
        inr record { span = s; is_there = (i, less i (length spans) few, is); from = from; below = below }

named_none : (byte : ℕ) → IsNamed [] byte → ⊥
named_none byte n = none n.is_there.0 n.is_there.1
  where
    none : (i : ℕ) → i < 0 → ⊥
    none i h = omega (arith, h)

-- ---- spans without a gap

follow_grows : (spans : List PartSpan) (from to : ℕ) → Follow from spans to → from ≤ to
follow_grows spans from to f = grows from (spans_size spans) to (follows_size spans from to f)
  where
    grows : (from size to : ℕ) → from + size ≡ to → from ≤ to
    grows from size to e = omega (arith, e)

pub follow_inside : (spans : List PartSpan) (from to size : ℕ) → Follow from spans to → to ≤ size →
    All (λ (span : PartSpan). span.start + span.length ≤ size) spans
follow_inside [] from to size f h = All-nil _
follow_inside (span ∷ spans) from to size f h =
    All-cons (λ (s : PartSpan). s.start + s.length ≤ size) span spans
    (ends _ _ _ _ _ f.0 (follow_grows spans (from + span.length) to f.1) h)
    (follow_inside spans (from + span.length) to size f.1 h)
  where
    ends : (start from length to size : ℕ) → start ≡ from → from + length ≤ to → to ≤ size → start + length ≤ size
    ends start from length to size e a b = omega (arith, e, a, b)

follow_bounds : (spans : List PartSpan) (from to byte : ℕ) → Follow from spans to → IsNamed spans byte →
    (from ≤ byte) × (byte < to)
follow_bounds [] from to byte f n = absurd (named_none byte n)
follow_bounds (span ∷ spans) from to byte f n =
    elim (named_cases span spans byte n) [
      | inl a ↦
          let here = a in
          (low _ _ _ f.0 here.0, high _ _ _ _ _ f.0 here.1 (follow_grows spans (from + span.length) to f.1))
      | inr b ↦
          let behind = b in
          let rest = follow_bounds spans (from + span.length) to byte f.1 behind in
          (more _ _ _ rest.0, rest.1)
    ]
  where
    low : (start from byte : ℕ) → start ≡ from → start ≤ byte → from ≤ byte
    low start from byte e h = omega (arith, e, h)

    high : (start from length to byte : ℕ) → start ≡ from → byte < start + length → from + length ≤ to → byte < to
    high start from length to byte e h g = omega (arith, e, h, g)

    more : (from length byte : ℕ) → from + length ≤ byte → from ≤ byte
    more from length byte h = omega (arith, h)

-- ---- a byte in spans of code and zeros isn't the packed song's

in_code : (byte code rows all : ℕ) → code + zero_bytes ≡ all → byte < code →
    ((all - zero_length ≤ byte) × (byte < all - zero_length + rows)) ⊎ (all + rows ≤ byte) → ⊥
in_code byte code rows all e h (inl p) = first _ _ _ e h p.0
  where
    first : (byte code all : ℕ) → code + zero_bytes ≡ all → byte < code → all - zero_length ≤ byte → ⊥
    first byte code all e h l = omega (arith, e, h, l)
in_code byte code rows all e h (inr p) = omega (arith, e, h, p)

in_first_zero : (byte code rows all : ℕ) → code + zero_bytes ≡ all → byte < code + zero_length →
    ((all - zero_length ≤ byte) × (byte < all - zero_length + rows)) ⊎ (all + rows ≤ byte) → ⊥
in_first_zero byte code rows all e h (inl p) = first _ _ _ e h p.0
  where
    first : (byte code all : ℕ) → code + zero_bytes ≡ all → byte < code + zero_length →
        all - zero_length ≤ byte → ⊥
    first byte code all e h l = omega (arith, e, h, l)
in_first_zero byte code rows all e h (inr p) = omega (arith, e, h, p)

in_second_zero : (byte code speeds rows all : ℕ) → code + zero_bytes ≡ all → speeds ≡ rows →
    code + zero_length + speeds ≤ byte → byte < code + zero_length + speeds + zero_length →
    ((all - zero_length ≤ byte) × (byte < all - zero_length + rows)) ⊎ (all + rows ≤ byte) → ⊥
in_second_zero byte code speeds rows all e f l h (inl p) = first _ _ _ _ _ e f l p.1
  where
    first : (byte code speeds rows all : ℕ) → code + zero_bytes ≡ all → speeds ≡ rows →
        code + zero_length + speeds ≤ byte → byte < all - zero_length + rows → ⊥
    first byte code speeds rows all e f l h = omega (arith, e, f, l, h)
in_second_zero byte code speeds rows all e f l h (inr p) = omega (arith, e, f, h, p)

pub none_packed : (byte code speeds rows all : ℕ) → code + zero_bytes ≡ all → speeds ≡ rows →
    (front : List PartSpan) → Follow 0 front code →
    IsNamed (front ++ zero_span code ∷ zero_span (code + zero_length + speeds) ∷ []) byte →
    ((all - zero_length ≤ byte) × (byte < all - zero_length + rows)) ⊎ (all + rows ≤ byte) → ⊥
none_packed byte code speeds rows all e f front follow n p =
    let behind : List PartSpan = zero_span (code + zero_length + speeds) ∷ [] in
    elim (named_split front (zero_span code ∷ behind) byte n) [
      | inl a ↦
          let first = a in in_code byte code rows all e (follow_bounds front 0 code byte follow first).1 p
      | inr a ↦
          let rest = a in
          elim (named_cases (zero_span code) behind byte rest) [
            | inl b ↦ let second = b in in_first_zero byte code rows all e second.1 p
            | inr b ↦
                let last = b in
                elim (named_cases (zero_span (code + zero_length + speeds)) [] byte last) [
                  | inl c ↦ let third = c in in_second_zero byte code speeds rows all e f third.0 third.1 p
                  | inr c ↦ let none = c in absurd (named_none byte none)
                ]
          ]
    ]

-- ---- the part of a byte

named_as_behind : (span : PartSpan) (spans : List PartSpan) (byte part : ℕ) → IsNamedAs spans byte part →
    IsNamedAs (span ∷ spans) byte part
unfolding named_behind
named_as_behind span spans byte part n =
    record { named = named_behind span spans byte n.named; part_is = n.part_is }

pub named_as_left : (front back : List PartSpan) (byte part : ℕ) → IsNamedAs front byte part →
    IsNamedAs (front ++ back) byte part
unfolding named_left
named_as_left front back byte part n =
    record { named = named_left front back byte n.named; part_is = n.part_is }

pub named_as_right : (front back : List PartSpan) (byte part : ℕ) → IsNamedAs back byte part →
    IsNamedAs (front ++ back) byte part
unfolding named_right
named_as_right front back byte part n =
    record { named = named_right front back byte n.named; part_is = n.part_is }

-- in spans without a gap it is the one in its place
follows_named_as : (spans : List PartSpan) (from to k : ℕ) → Follow from spans to → k < length (parts_of_spans spans) →
    IsNamedAs spans (from + k) (get_or (parts_of_spans spans) k 0)
follows_named_as [] from to k f inside = absurd (none k inside)
  where
    none : (k : ℕ) → k < 0 → ⊥
    none k h = omega (arith, h)
follows_named_as (span ∷ spans) from to k f inside =
    let own : List ℕ = replicate span.length span.part in
    let size : length own ≡ span.length = length-replicate span.length span.part in
    elim (cases_lt k span.length) [
      | inl a ↦
          let low = a in record {
            named = record {
              span = span;
              is_there = (0, some (length spans), refl);
              from = begin _ _ k f.0;
              below = end _ _ k _ f.0 low;
            };
            part_is = sym (get_or_append_left own (parts_of_spans spans) 0 k (subst (λ n. k < n) (sym size) low)
                ∙ get_or-replicate span.length k span.part 0 low);
          }
      | inr b ↦
          let high = b in
          let rest = follows_named_as spans (from + span.length) to (k - span.length) f.1
          (less _ _ _ _ high (ap (λ n. n + length (parts_of_spans spans)) size)
          (subst (λ n. k < n) (length-append own (parts_of_spans spans)) inside)) in
          subst (λ n. IsNamedAs (span ∷ spans) n (get_or (own ++ parts_of_spans spans) k 0)) (there from _ k high)
          (subst (λ part. IsNamedAs (span ∷ spans) (from + span.length + (k - span.length)) part)
          (sym (get_or-append_right own (parts_of_spans spans) span.length k 0 size high))
          (named_as_behind span spans _ _ rest))
    ]
  where
    some : (n : ℕ) → 0 < suc n
    some n = omega arith

    begin : (start from k : ℕ) → start ≡ from → start ≤ from + k
    begin start from k e = omega (arith, e)

    end : (start from k length : ℕ) → start ≡ from → k < length → from + k < start + length
    end start from k length e h = omega (arith, e, h)

    less : (k length rest all : ℕ) → length ≤ k → all ≡ length + rest → k < all → k - length < rest
    less k length rest all h e l = omega (arith, h, e, l)

    there : (from length k : ℕ) → length ≤ k → from + length + (k - length) ≡ from + k
    there from length k h = omega (arith, h)

-- so each byte of a code is of its part
pub code_named : (spans : List PartSpan) (code : List ℕ) (byte : ℕ) → Follow 0 spans (length code) →
    parts_of_spans spans ≡ code → byte < length code → IsNamedAs spans byte (slice_index code byte)
code_named spans code byte follow parts few =
    let here = follows_named_as spans 0 (length code) byte follow (subst (λ ps. byte < length ps) (sym parts) few) in
    subst (λ n. IsNamedAs spans n (get_or code byte 0)) (plain byte)
    (subst (λ p. IsNamedAs spans (0 + byte) p) (ap (λ (ps : List ℕ). get_or ps byte 0) parts) here)
  where
    plain : (n : ℕ) → 0 + n ≡ n
    plain n = omega arith

-- ---- what stands in front

begins_with : (spans : List PartSpan) (to n byte part : ℕ) (rest : List ℕ) → Follow 0 spans to →
    parts_of_spans spans ≡ replicate n part ++ rest → byte < n → IsNamedAs spans byte part
begins_with spans to n byte part rest follow parts few =
    let size : length (replicate n part) ≡ n = length-replicate n part in
    let all = ap length parts ∙ length-append (replicate n part) rest ∙ ap (λ m. m + length rest) size in
    let here = follows_named_as spans 0 to byte follow (within byte n _ _ few all) in
    subst (λ m. IsNamedAs spans m part) (plain byte)
    (subst (λ p. IsNamedAs spans (0 + byte) p)
    (ap (λ (ps : List ℕ). get_or ps byte 0) parts
    ∙ get_or_append_left (replicate n part) rest 0 byte (subst (λ m. byte < m) (sym size) few)
    ∙ get_or-replicate n byte part 0 few) here)
  where
    within : (byte n rest all : ℕ) → byte < n → all ≡ n + rest → byte < all
    within byte n rest all h e = omega (arith, h, e)

    plain : (n : ℕ) → 0 + n ≡ n
    plain n = omega arith

-- the entries, the variables and one byte more of the part that is always kept stand in front of the blocks
pub front_named : (spans : List PartSpan) (asked : ℕ) (o : Options) (to : ℕ) → Follow 0 spans to →
    parts_of_spans spans ≡ code_parts asked o → (byte : ℕ) →
    byte < 6 + variable_count (holds_in (kept_set asked o)) → IsNamedAs spans byte always
front_named spans asked o to follow parts byte few =
    begins_with spans to (front_bytes (variable_count (holds_in (kept_set asked o)))) byte always _ follow parts
    (less byte (variable_count (holds_in (kept_set asked o))) few)
  where
    less : (byte count : ℕ) → byte < 6 + count → byte < front_bytes count
    less byte count h = omega (arith, h)

-- a zero at a place
zero_named : (start : ℕ) (back : List PartSpan) → IsNamedAs (zero_span start ∷ back) start always
zero_named start back = record {
  named = record {
    span = zero_span start;
    is_there = (0, some (length back), refl);
    from = begin start;
    below = end start;
  };
  part_is = refl;
}
  where
    some : (n : ℕ) → 0 < suc n
    some n = omega arith

    begin : (start : ℕ) → start ≤ start
    begin start = omega arith

    end : (start : ℕ) → start < start + zero_length
    end start = omega arith

-- the one behind the code, and the one behind the speed table's right sides
pub first_zero_named : (front : List PartSpan) (code other all : ℕ) → code + zero_bytes ≡ all →
    IsNamedAs (front ++ zero_span code ∷ zero_span other ∷ []) (all - zero_bytes) always
first_zero_named front code other all e =
    subst (λ n. IsNamedAs (front ++ zero_span code ∷ zero_span other ∷ []) n always) (there code all e)
    (named_as_right front _ code always (zero_named code (zero_span other ∷ [])))
  where
    there : (code all : ℕ) → code + zero_bytes ≡ all → code ≡ all - zero_bytes
    there code all e = omega (arith, e)

pub second_zero_named : (front : List PartSpan) (code speeds rows all : ℕ) → code + zero_bytes ≡ all → speeds ≡ rows →
    IsNamedAs (front ++ zero_span code ∷ zero_span (code + zero_length + speeds) ∷ []) (all - zero_length + rows) always
second_zero_named front code speeds rows all e f =
    subst (λ n. IsNamedAs (front ++ zero_span code ∷ zero_span (code + zero_length + speeds) ∷ []) n always)
    (there code speeds rows all e f)
    (named_as_right front _ (code + zero_length + speeds) always
    (named_as_behind (zero_span code) (zero_span (code + zero_length + speeds) ∷ []) _ always
    (zero_named (code + zero_length + speeds) [])))
  where
    there : (code speeds rows all : ℕ) → code + zero_bytes ≡ all → speeds ≡ rows →
        code + zero_length + speeds ≡ all - zero_length + rows
    there code speeds rows all e f = omega (arith, e, f)
