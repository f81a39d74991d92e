-- Items of a list replaced by others: what moving items from end to end gives, and the way back.
use Rattle.std.proofs.Common.{◌≡◌, ℕ, ◌+◌, ◌-◌, ◌≤◌, List, [], ◌∷◌, ◌++◌, length, take}
use Rattle.std.proofs.Common.{drop, reverse, refl, sym, ap, ◌∙◌, append_assoc, arith, length-append, length-drop}
use Rattle.std.proofs.Common.{inl, inr, true, Some, IsSome, None, le-leb, vec_capacity, nat_le, ◌&&◌}
use Rattle.std.proofs.lemmas.Bool.{and_parts, cases_Bool}
use Rattle.std.proofs.lemmas.Bool.Decides.{nat_tests}
use Rattle.edit_ops.specs.declared.splices.Splice.{Splice}
use Rattle.edit_ops.specs.Splices.{spliced, whole_list, fits, replaced}
use Rattle.std.proofs.Math.Seq.{take-append_seam, drop-append_seam, take-add}
use Rattle.std.proofs.lemmas.List.{length-take, length-take-le, length-reverse, reverse-append, reverse-reverse, take-append-drop}

-- where the first m items end with x, the first but that one are what stands before it
pub last_out : {X : Type 0} (all rest : List X) (x : X) (m k : ℕ) → m ≡ k + 1 → m ≤ length all →
    take m all ≡ rest ++ x ∷ [] → (rest ≡ take k all) × (drop k all ≡ x ∷ drop m all)
last_out {X} all rest x m k e inside h =
    let whole : all ≡ rest ++ x ∷ drop m all =
    sym (take-append-drop m all) ∙ ap (λ (xs : List X). xs ++ drop m all) h ∙ append_assoc rest (x ∷ []) (drop m all) in
    let n : k ≡ length rest = omega (arith, ap length h, length-take m all, length-append rest (x ∷ []), e, inside) in (
      sym (ap (take k) whole ∙ ap (λ (j : ℕ). take j (rest ++ x ∷ drop m all)) n ∙ take-append_seam rest
          (x ∷ drop m all)),
      ap (drop k) whole ∙ ap (λ (j : ℕ). drop j (rest ++ x ∷ drop m all)) n ∙ drop-append_seam rest (x ∷ drop m all),
    )

-- b at the end is what comes first from behind
from_behind : {X : Type 0} (a b c : List X) → reverse (c ++ (a ++ b)) ≡ reverse b ++ reverse (c ++ a)
from_behind a b c = ap reverse (sym (append_assoc c a b)) ∙ reverse-append (c ++ a) b

left_behind : {X : Type 0} (a b c : List X) → take (length b) (reverse (c ++ (a ++ b))) ≡ reverse b
left_behind a b c =
    rw (from_behind a b c, sym (length-reverse b)) (take-append_seam (reverse b) (reverse (c ++ a)))

moved_out : {X : Type 0} (a b c : List X) → drop (length b) (reverse (c ++ (a ++ b))) ≡ reverse (c ++ a)
moved_out a b c =
    rw (from_behind a b c, sym (length-reverse b)) (drop-append_seam (reverse b) (reverse (c ++ a)))

-- what comes, with the rest of the list behind it, turned so that the front of the list comes first
turned : {X : Type 0} (a c items : List X) (n k : ℕ) → k ≡ length a → n ≡ length (items ++ (c ++ a)) →
    drop (n - k) (items ++ (c ++ a)) ++ take (n - k) (items ++ (c ++ a)) ≡ a ++ items ++ c
turned {X} a c items n k e n_is =
    let whole : items ++ (c ++ a) ≡ (items ++ c) ++ a = sym (append_assoc items c a) in
    let m : n - k ≡ length (items ++ c) = omega (arith, n_is, e, ap length whole, length-append (items ++ c) a) in
    rw (whole, m, drop-append_seam (items ++ c) a, take-append_seam (items ++ c) a) (sym (append_assoc a items c))

-- the list in three parts
module _ {X : Type 0} (list : List X) (at count : ℕ) (inside : at + count ≤ length list) where
  abbrev pub front : List X
  front = take at list

  abbrev pub middle : List X
  middle = take count (drop at list)

  abbrev pub back : List X
  back = drop (at + count) list

  front_long : at ≡ length front
  front_long = omega (arith, length-take at list, inside)

  middle_long : count ≡ length middle
  middle_long = omega (arith, length-take count (drop at list), length-drop at list, inside)

  rotated : drop (at + count) list ++ take (at + count) list ≡ back ++ (front ++ middle)
  rotated = ap (λ (xs : List X). back ++ xs) (take-add at count list)

  pub goes : (turned_list : List X) → turned_list ≡ reverse (drop (at + count) list ++ take (at + count) list) →
      reverse (take count turned_list) ≡ take count (drop at list)
  goes t e =
      ap (λ (xs : List X). reverse (take count xs)) (e ∙ ap reverse rotated)
      ∙ ap (λ (n : ℕ). reverse (take n (reverse (back ++ (front ++ middle))))) middle_long
      ∙ ap reverse (left_behind front middle back)
      ∙ reverse-reverse middle

  pub comes : (turned_list : List X) → turned_list ≡ reverse (drop (at + count) list ++ take (at + count) list) →
      reverse (drop count turned_list) ≡ back ++ front
  comes t e =
      ap (λ (xs : List X). reverse (drop count xs)) (e ∙ ap reverse rotated)
      ∙ ap (λ (n : ℕ). reverse (drop n (reverse (back ++ (front ++ middle))))) middle_long
      ∙ ap reverse (moved_out front middle back)
      ∙ reverse-reverse (back ++ front)

  pub whole_made : (items all : List X) (n : ℕ) → all ≡ items ++ (back ++ front) → n ≡ length all →
      drop (n - at) all ++ take (n - at) all ≡ spliced at count items list
  whole_made items all n e n_is = rw e (turned front back items n at front_long (n_is ∙ ap length e))

-- ---- the way back

-- what came gives way to what went
spliced_again : {X : Type 0} (list items : List X) (at count n : ℕ) → at + count ≤ length list → n ≡ length items →
    spliced at n (take count (drop at list)) (spliced at count items list) ≡ list
spliced_again {X} list items at count n inside n_is =
    let a = take at list in
    let c = drop (at + count) list in
    let long : at ≡ length a = omega (arith, length-take at list, inside) in
    let front : take at ((a ++ items) ++ c) ≡ a =
    ap (take at) (append_assoc a items c) ∙ ap (λ (k : ℕ). take k (a ++ (items ++ c))) long ∙ take-append_seam a
    (items ++ c) in
    let both : at + n ≡ length (a ++ items) = omega (arith, long, n_is, length-append a items) in
    let behind : drop (at + n) ((a ++ items) ++ c) ≡ c =
    ap (λ (k : ℕ). drop k ((a ++ items) ++ c)) both ∙ drop-append_seam (a ++ items) c in
    rw (front, behind) (ap (λ (xs : List X). xs ++ c) (sym (take-add at count list)) ∙ take-append-drop (at + count)
    list)

fits_if_some : {X : Type 0} (limit : ℕ) (list : List X) (splice : Splice X) → IsSome (replaced limit list splice) →
    fits limit list splice ≡ true
unfolding replaced
fits_if_some limit list splice some = elim (cases_Bool (fits limit list splice)) [
  | inl holds ↦ holds
  | inr fails ↦ let none : replaced limit list splice ≡ None = rw fails refl in cc
]

pub stored_places : {X : Type 0} (limit : ℕ) (list : List X) (splice : Splice X) → IsSome (replaced limit list splice) →
    splice.at + splice.count ≤ length list
stored_places limit list splice some =
    let whole = length (whole_list list splice) in
    let places = nat_le (splice.at + splice.count) (length list) in
    let yes = (and_parts places (nat_le whole limit)
    (and_parts (places && nat_le whole limit) (nat_le whole (vec_capacity splice.items))
    (fits_if_some limit list splice some)).0).0 in
    grind (arith, nat_tests)

-- the places of what came are there
places_after : {X : Type 0} (list items : List X) (at count : ℕ) → at + count ≤ length list →
    at + length items ≤ length (spliced at count items list)
places_after list items at count inside =
    omega (
      arith,
      length-append (take at list ++ items) (drop (at + count) list),
      length-append (take at list) items,
      length-take-le at list (omega (arith, inside)),
    )

pub leads_back : {X : Type 0} (limit : ℕ) (list new : List X) (splice other : Splice X) →
    IsSome (replaced limit list splice) → new ≡ whole_list list splice →
    other.at ≡ splice.at → other.count ≡ length splice.items.items →
    other.items.items ≡ take splice.count (drop splice.at list) → length list ≤ limit →
    length list ≤ vec_capacity other.items → replaced limit new other ≡ Some list
unfolding replaced
leads_back {X} limit list new splice other some is at count gone most room =
    let inside = stored_places limit list splice some in
    let again : whole_list new other ≡ list =
    rw (is, gone, at) (spliced_again list splice.items.items splice.at splice.count other.count inside count) in
    let long : other.at + other.count ≤ length new =
    rw (is, at, count) (places_after list splice.items.items splice.at splice.count inside) in
    let yes : fits limit new other ≡ true = rw (again, le-leb _ _ long, le-leb _ _ most, le-leb _ _ room) refl in
    rw (yes, again) refl

-- ---- what a splice that fits makes

pub can_put : {X : Type 0} (limit : ℕ) (list : List X) (splice : Splice X) → splice.at + splice.count ≤ length list →
    length (whole_list list splice) ≤ limit → length (whole_list list splice) ≤ vec_capacity splice.items →
    IsSome (replaced limit list splice)
unfolding replaced
can_put limit list splice inside most room = rw (le-leb _ _ inside, le-leb _ _ most, le-leb _ _ room) refl

pub whole_put : {X : Type 0} (limit : ℕ) (list new : List X) (splice : Splice X) → replaced limit list splice ≡ Some
    new →
    new ≡ whole_list list splice
unfolding replaced
whole_put limit list new splice e =
    let some : IsSome (replaced limit list splice) = rw e refl in
    let holds = fits_if_some limit list splice some in
    let is : replaced limit list splice ≡ Some (whole_list list splice) = rw holds refl in
    let same : Some new ≡ Some (whole_list list splice) = sym e ∙ is in
    cc
