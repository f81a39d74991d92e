-- Patterns with their numbers, exchanged one after the other, and the way back.
use Rattle.std.proofs.Common.{◌≡◌, ℕ, zero, suc, ◌+◌, ◌<◌, Bool, true, ◌&&◌, List, [], ◌∷◌}
use Rattle.std.proofs.Common.{◌++◌, length, take, drop, map, reverse, set, get_or, refl, sym, ap, ◌∙◌}
use Rattle.std.proofs.Common.{append_assoc, arith, nat_lt}
use Rattle.std.proofs.Math.ListN.{length-set}
use Rattle.std.proofs.Math.Seq.{take-suc, drop-cons, get_or-append_seam, set-append_seam}
use Rattle.std.proofs.lemmas.Bool.Decides.{nat_tests}
use Rattle.std.proofs.lemmas.Bool.{and_parts}
use Rattle.std.proofs.lemmas.List.{set-set, set-get_or, reverse-append, length-take-le, length-map, map-append}
use Rattle.std.proofs.lemmas.List.{take_all, drop_all, append-nil, get_or_default}
use Rattle.std.proofs.lemmas.List.Folds.{list_all-append}
use Rattle.song_model.specs.declared.rows.Row.{Row}
use Rattle.edit_ops.specs.declared.numbered.NumberedPattern.{NumberedPattern}
use Rattle.edit_ops.specs.Numbered.{are_stored, with_all, exchanged}

pub length-with_all : (patterns : List (List Row)) (parts : List NumberedPattern) →
    length (with_all patterns parts) ≡ length patterns
length-with_all patterns [] = refl
length-with_all patterns (part ∷ parts) =
    length-with_all (set patterns part.number part.rows) parts ∙ length-set patterns part.number part.rows

-- one more at the end
pub with_all_push : (patterns : List (List Row)) (parts : List NumberedPattern) (part : NumberedPattern) →
    with_all patterns (parts ++ part ∷ []) ≡ set (with_all patterns parts) part.number part.rows
with_all_push patterns [] part = refl
with_all_push patterns (first ∷ parts) part = with_all_push (set patterns first.number first.rows) parts part

pub exchanged_push : (patterns : List (List Row)) (parts : List NumberedPattern) (part : NumberedPattern) →
    exchanged patterns (parts ++ part ∷ [])
    ≡ exchanged patterns parts ++ record part { rows = get_or (with_all patterns parts) part.number [] } ∷ []
exchanged_push patterns [] part = refl
exchanged_push patterns (first ∷ parts) part =
    ap (λ (ps : List NumberedPattern). record first { rows = get_or patterns first.number [] } ∷ ps)
    (exchanged_push (set patterns first.number first.rows) parts part)

-- the last exchange is undone first
pub with_all_back : (patterns : List (List Row)) (parts : List NumberedPattern) →
    with_all (with_all patterns parts) (reverse (exchanged patterns parts)) ≡ patterns
with_all_back patterns [] = refl
with_all_back patterns (part ∷ parts) =
    let next = set patterns part.number part.rows in
    let was : NumberedPattern = record part { rows = get_or patterns part.number [] } in
    ap (with_all (with_all next parts)) (reverse-append (was ∷ []) (exchanged next parts))
    ∙ with_all_push (with_all next parts) (reverse (exchanged next parts)) was
    ∙ ap (λ (ps : List (List Row)). set ps part.number was.rows) (with_all_back next parts)
    ∙ set-set patterns part.number part.rows was.rows
    ∙ set-get_or patterns part.number []

length-exchanged : (patterns : List (List Row)) (parts : List NumberedPattern) →
    length (exchanged patterns parts) ≡ length parts
length-exchanged patterns [] = refl
length-exchanged patterns (part ∷ parts) = ap suc (length-exchanged (set patterns part.number part.rows) parts)

pub stored_at : (count : ℕ) (parts : List NumberedPattern) (i : ℕ) (d : NumberedPattern) →
    are_stored count parts ≡ true → i < length parts → (get_or parts i d).number < count
stored_at count [] i d h inside = absurd (omega arith)
stored_at count (part ∷ parts) zero d h inside =
    let first = (and_parts (nat_lt part.number count) (are_stored count parts) h).0 in grind (arith, nat_tests)
stored_at count (part ∷ parts) (suc i) d h inside =
    stored_at count parts i d (and_parts (nat_lt part.number count) (are_stored count parts) h).1 (omega arith)

-- in the middle of the exchange, item i is still the one that came
pub comes_next : (patterns : List (List Row)) (parts now : List NumberedPattern) (i : ℕ) (d : NumberedPattern) →
    i < length parts → now ≡ exchanged patterns (take i parts) ++ drop i parts → get_or now i d ≡ get_or parts i d
comes_next patterns parts now i d inside is =
    let front = exchanged patterns (take i parts) in
    let n : i ≡ length front =
    omega (arith, length-exchanged patterns (take i parts), length-take-le i parts (omega (arith, inside))) in
    let split : now ≡ front ++ get_or parts i d ∷ drop (suc i) parts =
    is ∙ ap (λ (ps : List NumberedPattern). front ++ ps) (drop-cons parts i d inside) in
    ap (λ (ps : List NumberedPattern). get_or ps i d) split
    ∙ ap (λ (k : ℕ). get_or (front ++ get_or parts i d ∷ drop (suc i) parts) k d) n
    ∙ get_or-append_seam front (get_or parts i d) (drop (suc i) parts) d

pub one_more : (patterns : List (List Row)) (parts now : List NumberedPattern) (i : ℕ) (part : NumberedPattern) →
    i < length parts → now ≡ exchanged patterns (take i parts) ++ drop i parts → part ≡ get_or parts i part →
    (set (with_all patterns (take i parts)) part.number part.rows ≡ with_all patterns (take (i + 1) parts))
    × (set now i (record part { rows = get_or (with_all patterns (take i parts)) part.number [] })
    ≡ exchanged patterns (take (i + 1) parts) ++ drop (i + 1) parts)
one_more patterns parts now i part inside is at =
    let front = exchanged patterns (take i parts) in
    let was : NumberedPattern = record part { rows = get_or (with_all patterns (take i parts)) part.number [] } in
    let next : i + 1 ≡ suc i = omega arith in
    let more : take (i + 1) parts ≡ take i parts ++ part ∷ [] =
    ap (λ (k : ℕ). take {A = NumberedPattern} k parts) next ∙ take-suc parts i part inside
    ∙ ap (λ (p : NumberedPattern). take i parts ++ p ∷ []) (sym at) in
    let n : i ≡ length front =
    omega (arith, length-exchanged patterns (take i parts), length-take-le i parts (omega (arith, inside))) in
    let rest = drop (suc i) parts in
    let split : now ≡ front ++ part ∷ rest =
    is ∙ ap (λ (ps : List NumberedPattern). front ++ ps) (drop-cons parts i part inside)
    ∙ ap (λ (p : NumberedPattern). front ++ p ∷ rest) (sym at) in (
      sym (ap (with_all patterns) more ∙ with_all_push patterns (take i parts) part),
      ap (λ (ps : List NumberedPattern). set ps i was) split
          ∙ ap (λ (k : ℕ). set (front ++ part ∷ rest) k was) n
          ∙ set-append_seam front part rest was
          ∙ sym (append_assoc front (was ∷ []) rest)
          ∙ ap (λ (ps : List NumberedPattern). ps ++ rest) (sym
          (ap (exchanged patterns) more ∙ exchanged_push patterns (take i parts) part))
          ∙ ap (λ (k : ℕ). exchanged patterns (take (i + 1) parts) ++ drop {A = NumberedPattern} k parts) (sym next),
    )

-- what the code reads at place i is item i of the parts
pub read_is : (patterns : List (List Row)) (parts now : List NumberedPattern) (i : ℕ) (read part : NumberedPattern) →
    i < length parts → now ≡ exchanged patterns (take i parts) ++ drop i parts → read ≡ get_or now i read →
    part ≡ get_or now i part → read ≡ part
read_is patterns parts now i read part inside is r p =
    r ∙ comes_next patterns parts now i read inside is ∙ get_or_default parts i read part inside
    ∙ sym (p ∙ comes_next patterns parts now i part inside is)

pub step_made : (patterns before after : List (List Row)) (parts now : List NumberedPattern) (i number : ℕ)
    (part : NumberedPattern) (was : List Row) → are_stored (length patterns) parts ≡ true → i < length parts →
    before ≡ with_all patterns (take i parts) → now ≡ exchanged patterns (take i parts) ++ drop i parts →
    part ≡ get_or now i part → number ≡ part.number → after ≡ set before number part.rows →
    was ≡ get_or before number part.rows →
    (after ≡ with_all patterns (take (i + 1) parts))
    × (set now i (record part { rows = was }) ≡ exchanged patterns (take (i + 1) parts) ++ drop (i + 1) parts)
step_made patterns before after parts now i number part was stored inside e0 e1 at is e2 e3 =
    let same : part ≡ get_or parts i part = at ∙ comes_next patterns parts now i part inside e1 in
    let low : part.number < length (with_all patterns (take i parts)) =
    omega (
      arith,
      ap (λ (p : NumberedPattern). p.number) same,
      stored_at (length patterns) parts i part stored inside,
      length-with_all patterns (take i parts),
    ) in
    let more = one_more patterns parts now i part inside e1 same in
    let found : was ≡ get_or (with_all patterns (take i parts)) part.number [] =
    e3 ∙ ap (λ (ps : List (List Row)). get_or ps number part.rows) e0
    ∙ ap (λ (n : ℕ). get_or (with_all patterns (take i parts)) n part.rows) is
    ∙ get_or_default (with_all patterns (take i parts)) part.number part.rows [] low in (
      e2 ∙ ap (λ (ps : List (List Row)). set ps number part.rows) e0
          ∙ ap (λ (n : ℕ). set (with_all patterns (take i parts)) n part.rows) is ∙ more.0,
      ap (λ (rows : List Row). set now i (record part { rows = rows })) found ∙ more.1,
    )

-- ---- the numbers stay

exchanged_stored : (count : ℕ) (patterns : List (List Row)) (parts : List NumberedPattern) →
    are_stored count (exchanged patterns parts) ≡ are_stored count parts
exchanged_stored count patterns [] = refl
exchanged_stored count patterns (part ∷ parts) =
    ap (λ (b : Bool). nat_lt part.number count && b)
    (exchanged_stored count (set patterns part.number part.rows) parts)

reversed_stored : (count : ℕ) (parts : List NumberedPattern) → are_stored count parts ≡ true →
    are_stored count (reverse parts) ≡ true
reversed_stored count [] h = refl
reversed_stored count (part ∷ parts) h =
    let both = and_parts (nat_lt part.number count) (are_stored count parts) h in
    rw (
      reverse-append (part ∷ []) parts,
      list_all-append (λ (p : NumberedPattern). nat_lt p.number count) (reverse parts) (part ∷ []),
      reversed_stored count parts both.1,
      both.0,
    ) refl

pub stored_back : (patterns : List (List Row)) (parts : List NumberedPattern) →
    are_stored (length patterns) parts ≡ true →
    are_stored (length (with_all patterns parts)) (reverse (exchanged patterns parts)) ≡ true
stored_back patterns parts h =
    ap (λ (n : ℕ). are_stored n (reverse (exchanged patterns parts))) (length-with_all patterns parts)
    ∙ reversed_stored (length patterns) (exchanged patterns parts)
    (exchanged_stored (length patterns) patterns parts ∙ h)

-- ---- some patterns of a list changed

-- the first k patterns are changed
abbrev pub ChangedUpTo : (List Row → List Row) → ℕ → List (List Row) → List NumberedPattern → Type 0
ChangedUpTo f k patterns parts =
    (are_stored (length patterns) parts ≡ true) × (with_all patterns parts ≡ map f (take k patterns) ++ drop k patterns)

pub changed_none : (f : List Row → List Row) (patterns : List (List Row)) (parts : List NumberedPattern) → parts ≡ [] →
    ChangedUpTo f 0 patterns parts
changed_none f patterns parts e = rw e (refl, refl)

map_next : (f : List Row → List Row) (k : ℕ) (patterns : List (List Row)) (d : List Row) → k < length patterns →
    map f (take (k + 1) patterns) ++ drop (k + 1) patterns ≡ map f (take k patterns) ++ f (get_or patterns k d) ∷ drop
    (suc k) patterns
map_next f k patterns d inside =
    let next : k + 1 ≡ suc k = omega arith in
    rw (next, take-suc patterns k d inside, map-append f (take k patterns) (get_or patterns k d ∷ []))
    (append_assoc (map f (take k patterns)) (f (get_or patterns k d) ∷ []) (drop (suc k) patterns))

-- the next one stays
pub changed_stays : (f : List Row → List Row) (k : ℕ) (patterns : List (List Row)) (parts : List NumberedPattern)
    (d : List Row) →
    k < length patterns → ChangedUpTo f k patterns parts → f (get_or patterns k d) ≡ get_or patterns k d →
    ChangedUpTo f (k + 1) patterns parts
changed_stays f k patterns parts d inside changed stays = (
  changed.0,
  changed.1 ∙ ap (λ (ps : List (List Row)). map f (take k patterns) ++ ps) (drop-cons patterns k d inside)
      ∙ ap (λ (rows : List Row). map f (take k patterns) ++ rows ∷ drop (suc k) patterns) (sym stays)
      ∙ sym (map_next f k patterns d inside),
)

-- the next one is changed
pub changed_next : (f : List Row → List Row) (k : ℕ) (patterns : List (List Row)) (parts more : List NumberedPattern)
    (part : NumberedPattern) (d : List Row) → k < length patterns → ChangedUpTo f k patterns parts →
    more ≡ parts ++ part ∷ [] → part.number ≡ k → part.rows ≡ f (get_or patterns k d) →
    ChangedUpTo f (k + 1) patterns more
changed_next f k patterns parts more part d inside changed is number rows =
    let front = map f (take k patterns) in
    let n : k ≡ length front =
    omega (arith, length-map (take k patterns) f, length-take-le k patterns (omega (arith, inside))) in
    let low : nat_lt part.number (length patterns) ≡ true =
    (let small : part.number < length patterns = omega (arith, number, inside) in grind (arith, nat_tests)) in (
      rw (
        is,
        list_all-append (λ (p : NumberedPattern). nat_lt p.number (length patterns)) parts (part ∷ []),
        changed.0,
        low,
      ) refl,
      ap (with_all patterns) is ∙ with_all_push patterns parts part
          ∙ ap (λ (ps : List (List Row)). set ps part.number part.rows)
          (changed.1 ∙ ap (λ (ps : List (List Row)). front ++ ps) (drop-cons patterns k d inside))
          ∙ ap (λ (i : ℕ). set (front ++ get_or patterns k d ∷ drop (suc k) patterns) i part.rows) (number ∙ n)
          ∙ set-append_seam front (get_or patterns k d) (drop (suc k) patterns) part.rows
          ∙ ap (λ (rs : List Row). front ++ rs ∷ drop (suc k) patterns) rows
          ∙ sym (map_next f k patterns d inside),
    )

pub changed_all : (f : List Row → List Row) (k : ℕ) (patterns : List (List Row)) (parts : List NumberedPattern) →
    k ≡ length patterns → ChangedUpTo f k patterns parts → with_all patterns parts ≡ map f patterns
changed_all f k patterns parts e changed =
    let none : drop k patterns ≡ [] = drop_all k patterns (omega (arith, e)) in
    let all : take k patterns ≡ patterns = take_all k patterns (omega (arith, e)) in
    changed.1 ∙ rw (none, all) (append-nil (map f patterns))
