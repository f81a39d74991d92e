-- Labels in lists: which of a table's labels stand, where one stands in a list, and lists that rise.
use Rattle.std.proofs.Common.{◌≡◌, ℕ, zero, suc, ◌+◌, ◌<◌, ◌≤◌, Bool, true, false, ◌&&◌, ◌||◌, nat_eq, nat_lt, List, []}
use Rattle.std.proofs.Common.{◌∷◌, length, get_or, take, refl, sym, ◌∙◌, arith}
use Rattle.std.proofs.lemmas.Bool.{and_parts, eqb-true, ltb-true, false≢true}
use Rattle.narrow_runs.specs.Named.{any_holds, stands_under}
use Rattle.variable_places.specs.Places.{asked_in, standing, position_in}

-- whether a list has a label, and whether a table lists it
abbrev pub has : List ℕ → ℕ → Bool
has [] label = false
has (first ∷ labels) label = nat_eq first label || has labels label

abbrev pub lists : List (ℕ × List ℕ) → ℕ → Bool
lists [] label = false
lists (row ∷ rows) label = nat_eq row.0 label || lists rows label

-- a label that a table lists is among those that stand, if what its row asks holds
pub stands_in : (holds : ℕ → Bool) (rows : List (ℕ × List ℕ)) (label : ℕ) → lists rows label ≡ true →
    stands_under holds (asked_in rows label) ≡ true → has (standing holds rows) label ≡ true
stands_in holds [] label listed stands = listed
stands_in holds (row ∷ rows) label listed stands =
    by_label (nat_eq row.0 label) refl (λ more kept. stands_in holds rows label more kept)
  where
    with_rest : (z : Bool) → has (standing holds rows) label ≡ true → (z || has (standing holds rows) label) ≡ true
    with_rest true rest = refl
    with_rest false rest = rest

    by_row : (s : Bool) → stands_under holds row.1 ≡ s → has (standing holds rows) label ≡ true →
        has (standing holds (row ∷ rows)) label ≡ true
    by_row true s rest = rw s (with_rest (nat_eq row.0 label) rest)
    by_row false s rest = rw s rest

    by_label : (z : Bool) → nat_eq row.0 label ≡ z →
        (lists rows label ≡ true → stands_under holds (asked_in rows label) ≡ true →
        has (standing holds rows) label ≡ true) →
        has (standing holds (row ∷ rows)) label ≡ true
    by_label true e rest = let s : stands_under holds row.1 ≡ true = rw e at stands in rw (s, e) refl
    by_label false e rest =
        let more : lists rows label ≡ true = rw e at listed in
        let kept : stands_under holds (asked_in rows label) ≡ true = rw e at stands in
        by_row (stands_under holds row.1) refl (rest more kept)

-- no more labels stand than there are rows
pub stand_few : (holds : ℕ → Bool) (rows : List (ℕ × List ℕ)) → length (standing holds rows) ≤ length rows
stand_few holds [] = omega arith
stand_few holds (row ∷ rows) = by_row (stands_under holds row.1) refl (stand_few holds rows)
  where
    by_row : (s : Bool) → stands_under holds row.1 ≡ s → length (standing holds rows) ≤ length rows →
        length (standing holds (row ∷ rows)) ≤ length (row ∷ rows)
    by_row true s rest = rw s (omega (arith, rest))
    by_row false s rest = rw s (omega (arith, rest))

-- what stands under some conditions stands under more
any_rises : (one two : ℕ → Bool) → ((condition : ℕ) → one condition ≡ true → two condition ≡ true) →
    (asked : List ℕ) → any_holds one asked ≡ true → any_holds two asked ≡ true
any_rises one two more [] holds = holds
any_rises one two more (condition ∷ asked) holds =
    by_first (one condition) refl (λ rest. any_rises one two more asked rest)
  where
    with_rest : (z : Bool) → any_holds two asked ≡ true → (z || any_holds two asked) ≡ true
    with_rest true rest = refl
    with_rest false rest = rest

    by_first : (z : Bool) → one condition ≡ z → (any_holds one asked ≡ true → any_holds two asked ≡ true) →
        any_holds two (condition ∷ asked) ≡ true
    by_first true z rest = rw (more condition z) refl
    by_first false z rest =
        let behind : any_holds one asked ≡ true = rw z at holds in with_rest (two condition) (rest behind)

pub stands_rises : (one two : ℕ → Bool) → ((condition : ℕ) → one condition ≡ true → two condition ≡ true) →
    (asked : List ℕ) → stands_under one asked ≡ true → stands_under two asked ≡ true
stands_rises one two more [] stands = refl
stands_rises one two more (condition ∷ asked) stands = any_rises one two more (condition ∷ asked) stands

-- so no fewer labels stand
pub stand_more : (one two : ℕ → Bool) → ((condition : ℕ) → one condition ≡ true → two condition ≡ true) →
    (rows : List (ℕ × List ℕ)) → length (standing one rows) ≤ length (standing two rows)
stand_more one two more [] = omega arith
stand_more one two more (row ∷ rows) =
    by_row (stands_under one row.1) refl (stands_under two row.1) refl (stand_more one two more rows)
  where
    by_row : (s : Bool) → stands_under one row.1 ≡ s → (t : Bool) → stands_under two row.1 ≡ t →
        length (standing one rows) ≤ length (standing two rows) →
        length (standing one (row ∷ rows)) ≤ length (standing two (row ∷ rows))
    by_row true s true t rest = rw (s, t) (omega (arith, rest))
    by_row true s false t rest = absurd (false≢true (sym t ∙ stands_rises one two more row.1 s))
    by_row false s true t rest = rw (s, t) (omega (arith, rest))
    by_row false s false t rest = rw (s, t) rest

-- what a label asks among the first rows it asks in the whole table
pub asks_first : (n : ℕ) (rows : List (ℕ × List ℕ)) (label : ℕ) → lists (take n rows) label ≡ true →
    asked_in rows label ≡ asked_in (take n rows) label
asks_first zero rows label listed = absurd (false≢true listed)
asks_first (suc n) [] label listed = refl
asks_first (suc n) (row ∷ rows) label listed =
    by_label (nat_eq row.0 label) refl (λ more. asks_first n rows label more)
  where
    by_label : (z : Bool) → nat_eq row.0 label ≡ z →
        (lists (take n rows) label ≡ true → asked_in rows label ≡ asked_in (take n rows) label) →
        asked_in (row ∷ rows) label ≡ asked_in (take (suc n) (row ∷ rows)) label
    by_label true e rest = rw e refl
    by_label false e rest =
        let more : lists (take n rows) label ≡ true = rw e at listed in rw e (rest more)

-- a label that a list has stands at its position
pub record IsAt (labels : List ℕ) (label : ℕ) : Type 0 where
  pub below : position_in labels label < length labels
  pub is : get_or labels (position_in labels label) 0 ≡ label

pub stands_at : (labels : List ℕ) (label : ℕ) → has labels label ≡ true → IsAt labels label
stands_at [] label there = absurd (false≢true there)
stands_at (first ∷ labels) label there =
    by_label (nat_eq first label) refl (λ more. stands_at labels label more)
  where
    by_label : (z : Bool) → nat_eq first label ≡ z → (has labels label ≡ true → IsAt labels label) →
        IsAt (first ∷ labels) label
    by_label true e behind = record { below = rw e (omega arith); is = rw e (eqb-true first label e) }
    by_label false e behind =
        let more : has labels label ≡ true = rw e at there in
        let rest = behind more in
        let below = rest.below in
        let next : position_in labels label + 1 ≡ suc (position_in labels label) = omega arith in
        record { below = rw e (omega (arith, below)); is = rw (e, next) rest.is }

-- ---- lists that rise

abbrev pub rises : List ℕ → Bool
rises [] = true
rises (one ∷ []) = true
rises (one ∷ two ∷ more) = nat_lt one two && rises (two ∷ more)

rises_from : (one : ℕ) (more : List ℕ) (k : ℕ) → rises (one ∷ more) ≡ true → k < length more → one < get_or more k 0
rises_from one [] k risen low = absurd (omega (arith, low))
rises_from one (two ∷ more) zero risen low = ltb-true one two (and_parts (nat_lt one two) (rises (two ∷ more)) risen).0
rises_from one (two ∷ more) (suc k) risen low =
    let parts = and_parts (nat_lt one two) (rises (two ∷ more)) risen in
    let here = ltb-true one two parts.0 in
    let there = rises_from two more k parts.1 (omega (arith, low)) in
    omega (arith, here, there)

rest_rises : (one : ℕ) (more : List ℕ) → rises (one ∷ more) ≡ true → rises more ≡ true
rest_rises one [] risen = refl
rest_rises one (two ∷ more) risen = (and_parts (nat_lt one two) (rises (two ∷ more)) risen).1

pub rises_at : (list : List ℕ) (i j : ℕ) → rises list ≡ true → i < j → j < length list →
    get_or list i 0 < get_or list j 0
rises_at [] i j risen order low = absurd (omega (arith, low))
rises_at (one ∷ more) i zero risen order low = absurd (omega (arith, order))
rises_at (one ∷ more) zero (suc j) risen order low = rises_from one more j risen (omega (arith, low))
rises_at (one ∷ more) (suc i) (suc j) risen order low =
    rises_at more i j (rest_rises one more risen) (omega (arith, order)) (omega (arith, low))

-- what each item of a list passes, the item at each index does
abbrev pub all_pass : (ℕ → Bool) → List ℕ → Bool
all_pass test [] = true
all_pass test (item ∷ items) = test item && all_pass test items

pub passes_at : (test : ℕ → Bool) (list : List ℕ) (k : ℕ) → all_pass test list ≡ true → k < length list →
    test (get_or list k 0) ≡ true
passes_at test [] k pass low = absurd (omega (arith, low))
passes_at test (item ∷ items) zero pass low = (and_parts (test item) (all_pass test items) pass).0
passes_at test (item ∷ items) (suc k) pass low =
    passes_at test items k (and_parts (test item) (all_pass test items) pass).1 (omega (arith, low))
