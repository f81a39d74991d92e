-- Lists of parts, one for each byte.
use Rattle.std.proofs.Common.{◌≡◌, ℕ, zero, suc, ◌+◌, ◌*◌, Bool, true, false, ◌==◌, if◌then◌else◌, List}
use Rattle.std.proofs.Common.{[], ◌∷◌, ◌++◌, replicate, refl, sym, ap, ◌∙◌, arith}
use Rattle.std.proofs.lemmas.Grind.{flat_map-append}
use Rattle.std.proofs.lemmas.List.Folds.{sum_by-replicate}
use Rattle.std.proofs.lemmas.List.Sums.{sum_by-append, sum_by-cons}
use Rattle.scope_parts.specs.Parts.{bytes_of}
use Rattle.player_build.specs.declared.image.PartSpan.{PartSpan}
use Rattle.player_build.specs.Spans.{part_size, parts_of_spans}

-- ---- of two lists

pub spans_split : (front back : List PartSpan) →
    parts_of_spans (front ++ back) ≡ parts_of_spans front ++ parts_of_spans back
spans_split front back = flat_map-append (λ (span : PartSpan). replicate span.length span.part) front back

pub replicate_more : (n m part : ℕ) → replicate (n + m) part ≡ replicate n part ++ replicate m part
replicate_more zero m part = ap (λ (k : ℕ). replicate k part) (nothing m)
  where
    nothing : (m : ℕ) → 0 + m ≡ m
    nothing m = omega arith
replicate_more (suc n) m part =
    ap (λ (k : ℕ). replicate k part) (more n m)
    ∙ ap (λ (parts : List ℕ). part ∷ parts) (replicate_more n m part)
  where
    more : (n m : ℕ) → suc n + m ≡ suc (n + m)
    more n m = omega arith

-- ---- how many bytes are of a part

again : (part own n : ℕ) → bytes_of part (replicate n own) ≡ (if own == part then n else 0)
again part own n =
    sum_by-replicate (λ (o : ℕ). if o == part then 1 else 0) n own ∙ times (own == part)
  where
    times : (z : Bool) → n * (if z then 1 else 0) ≡ (if z then n else 0)
    times true = omega arith
    times false = omega arith

pub bytes_both : (part : ℕ) (one other : List ℕ) → bytes_of part (one ++ other) ≡ bytes_of part one + bytes_of part other
bytes_both part one other = sum_by-append (λ (o : ℕ). if o == part then 1 else 0) one other

-- as many as the spans of the part have
pub spans_bytes : (part : ℕ) (spans : List PartSpan) → part_size part spans ≡ bytes_of part (parts_of_spans spans)
spans_bytes part [] = refl
spans_bytes part (span ∷ spans) =
    sum_by-cons (λ (s : PartSpan). if s.part == part then s.length else 0) span spans
    ∙ both _ _ _ _ (again part span.part span.length) (spans_bytes part spans)
    ∙ sym (bytes_both part (replicate span.length span.part) (parts_of_spans spans))
  where
    both : (one other rest all : ℕ) → other ≡ one → rest ≡ all → one + rest ≡ other + all
    both one other rest all a b = omega (arith, a, b)
