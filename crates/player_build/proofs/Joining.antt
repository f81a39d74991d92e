-- Spans, one more or a longer one, and what lists of them have.
use Rattle.std.proofs.Common.{◌≡◌, ℕ, suc, ◌+◌, ◌<◌, ◌≤◌, List, [], ◌∷◌}
use Rattle.std.proofs.Common.{◌++◌, length, replicate, refl, sym, ap, ◌∙◌, arith, inl, inr, subst}
use Rattle.std.proofs.lemmas.Bool.{cases_lt}
use Rattle.std.proofs.lemmas.List.{append-nil, append_assoc, length-append}
use Rattle.std.proofs.lemmas.List.Sums.{sum_by-append}
use Rattle.player_build.specs.declared.image.PartSpan.{PartSpan}
use Rattle.player_build.specs.Joined.{Follow}
use Rattle.player_build.specs.Spans.{StandInOrder, spans_size, parts_of_spans, IsNamed}
use Rattle.player_build.proofs.Parted.{spans_split, replicate_more}

-- ---- lists of spans

-- one behind the other
pub follow_append : (front back : List PartSpan) (from mid to : ℕ) → Follow from front mid → Follow mid back to →
    Follow from (front ++ back) to
follow_append [] back from mid to e rest = subst (λ n. Follow n back to) (sym e) rest
follow_append (span ∷ front) back from mid to f rest = (f.0, follow_append front back (from + span.length) mid to f.1 rest)

-- the last one longer
longer : (spans : List PartSpan) (part start size more from to : ℕ) →
    Follow from (spans ++ record { part = part; start = start; length = size } ∷ []) to →
    Follow from (spans ++ record { part = part; start = start; length = size + more } ∷ []) (to + more)
longer [] part start size more from to f = (f.0, last from size more to f.1)
  where
    last : (from size more to : ℕ) → from + size ≡ to → from + (size + more) ≡ to + more
    last from size more to e = omega (arith, e)
longer (span ∷ spans) part start size more from to f =
    (f.0, longer spans part start size more (from + span.length) to f.1)

-- ---- a byte more

-- what is known of the spans so far: they are those of these bytes, and the last one is still open
pub record Joins (spans : List PartSpan) (span : PartSpan) (code : List ℕ) : Type 0 where
  pub follow : Follow 0 (spans ++ span ∷ []) (length code)
  pub end : span.start + span.length ≡ length code
  pub parts : parts_of_spans (spans ++ span ∷ []) ≡ code

last_parts : (spans : List PartSpan) (span : PartSpan) →
    parts_of_spans (spans ++ span ∷ []) ≡ parts_of_spans spans ++ replicate span.length span.part
last_parts spans span =
    spans_split spans (span ∷ [])
    ∙ ap (λ (parts : List ℕ). parts_of_spans spans ++ parts) (append-nil (replicate span.length span.part))

one_longer : (code : List ℕ) (part : ℕ) → length (code ++ part ∷ []) ≡ length code + 1
one_longer code part = length-append code (part ∷ [])

-- it is of the open span's part
pub joins_longer : (spans : List PartSpan) (span : PartSpan) (code : List ℕ) (part : ℕ) → part ≡ span.part →
    Joins spans span code → Joins spans (record span { length = span.length + 1 }) (code ++ part ∷ [])
joins_longer spans span code part same j =
    let all = one_longer code part in
    record {
      follow = subst (Follow 0 (spans ++ record span { length = span.length + 1 } ∷ [])) (sym all)
          (longer spans span.part span.start span.length 1 0 (length code) j.follow);
      end = more _ _ _ _ j.end all;
      parts = last_parts spans (record span { length = span.length + 1 })
          ∙ ap (λ (parts : List ℕ). parts_of_spans spans ++ parts) (replicate_more span.length 1 span.part)
          ∙ sym (append_assoc (parts_of_spans spans) (replicate span.length span.part) (replicate 1 span.part))
          ∙ ap (λ (parts : List ℕ). parts ++ replicate 1 span.part) (sym (last_parts spans span) ∙ j.parts)
          ∙ ap (λ (p : ℕ). code ++ p ∷ []) (sym same);
    }
  where
    more : (start length old new : ℕ) → start + length ≡ old → new ≡ old + 1 → start + (length + 1) ≡ new
    more start length old new a b = omega (arith, a, b)

-- it begins a new one
pub joins_more : (spans : List PartSpan) (span next : PartSpan) (code : List ℕ) (part : ℕ) → next.length ≡ 1 →
    next.part ≡ part → next.start ≡ span.start + span.length → Joins spans span code →
    Joins (spans ++ span ∷ []) next (code ++ part ∷ [])
joins_more spans span next code part size is start j =
    let all = one_longer code part ∙ ap (λ n. length code + n) (sym size) in
    record {
      follow = follow_append (spans ++ span ∷ []) (next ∷ []) 0 (length code) _ j.follow (start ∙ j.end, sym all);
      end = ap (λ n. n + next.length) (start ∙ j.end) ∙ sym all;
      parts = last_parts (spans ++ span ∷ []) next
          ∙ ap (λ (parts : List ℕ). parts ++ replicate next.length next.part) j.parts
          ∙ ap (λ (n : ℕ). code ++ replicate n next.part) size
          ∙ ap (λ (p : ℕ). code ++ p ∷ []) is;
    }

-- ---- what lists without a gap have

pub follows_in_order : (spans : List PartSpan) (from to : ℕ) → Follow from spans to → StandInOrder from spans
follows_in_order [] from to f = tt
follows_in_order (span ∷ spans) from to f = (
  begin _ _ f.0,
  follows_in_order spans (span.start + span.length) to
      (subst (λ n. Follow (n + span.length) spans to) (sym f.0) f.1),
)
  where
    begin : (a b : ℕ) → a ≡ b → b ≤ a
    begin a b e = omega (arith, e)

pub follows_size : (spans : List PartSpan) (from to : ℕ) → Follow from spans to → from + spans_size spans ≡ to
follows_size [] from to f = alone from ∙ f
  where
    alone : (n : ℕ) → n + 0 ≡ n
    alone n = omega arith
follows_size (span ∷ spans) from to f =
    ap (λ n. from + n) (sum_by-append (λ (s : PartSpan). s.length) (span ∷ []) spans) ∙ group from span.length _
    ∙ follows_size spans (from + span.length) to f.1
  where
    group : (a b c : ℕ) → a + (0 + b + c) ≡ a + b + c
    group a b c = omega arith

unfoldable pub named_behind : (span : PartSpan) (spans : List PartSpan) (byte : ℕ) → IsNamed spans byte → IsNamed (span ∷ spans) byte
named_behind span spans byte n = record {
  span = n.span;
  is_there = (suc n.is_there.0, less _ _ n.is_there.1, n.is_there.2);
  from = n.from;
  below = n.below;
}
  where
    less : (a b : ℕ) → a < b → suc a < suc b
    less a b h = omega (arith, h)

pub follows_named : (spans : List PartSpan) (from to byte : ℕ) → Follow from spans to → from ≤ byte → byte < to →
    IsNamed spans byte
follows_named [] from to byte f low high = absurd (none _ _ _ f low high)
  where
    none : (from to byte : ℕ) → from ≡ to → from ≤ byte → byte < to → ⊥
    none from to byte e l h = omega (arith, e, l, h)
follows_named (span ∷ spans) from to byte f low high =
    elim (cases_lt byte (from + span.length)) [
      | inl inside ↦
          let i = inside in record {
            span = span;
            is_there = (0, some (length spans), refl);
            from = begin _ _ _ f.0 low;
            below = end _ _ _ _ f.0 i;
          }
      | inr behind ↦ let b = behind in named_behind span spans byte (follows_named spans (from + span.length) to byte f.1 b high)
    ]
  where
    some : (n : ℕ) → 0 < suc n
    some n = omega arith

    begin : (start from byte : ℕ) → start ≡ from → from ≤ byte → start ≤ byte
    begin start from byte e h = omega (arith, e, h)

    end : (start from byte size : ℕ) → start ≡ from → byte < from + size → byte < start + size
    end start from byte size e h = omega (arith, e, h)
