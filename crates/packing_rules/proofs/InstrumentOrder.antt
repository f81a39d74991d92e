-- The used instruments in the order of what they hold before their notes: how many they are, where each stands, and
-- where what they hold doesn't fall along them.
use Rattle.std.proofs.Common.{◌≡◌, ℕ, zero, suc, ◌+◌, ◌-◌, ◌<◌, ◌≤◌, Bool, true, false, ◌&&◌, ◌||◌}
use Rattle.std.proofs.Common.{List, [], ◌∷◌, ◌++◌, length, get_or, All, refl, sym, ◌∙◌, ap, inl, inr, arith}
use Rattle.std.specs.Prelude.{nat_eq, ◌==◌, if◌then◌else◌}
use Rattle.std.specs.List.{filter, list_any, position_or_len, count_by, range_with_len}
use Rattle.std.specs.List.Sorted.{IsNonDecreasingBy}
use Rattle.std.proofs.lemmas.Bool.{and_parts, and_from, cases_eq, eqb-true, ne_eqb, eq-eqb}
use Rattle.std.proofs.lemmas.List.{length-append}
use Rattle.std.proofs.lemmas.List.Elements.{All-cons, All-append, All-weaker, All-filter, All-get_or, All-from_get_or}
use Rattle.std.proofs.lemmas.List.Elements.{All-head, All-tail, filter_passes}
use Rattle.std.proofs.lemmas.List.Folds.{list_any-append, list_any_at, list_any_none}
use Rattle.std.proofs.lemmas.List.FromFn.{length-range_with_len, get_or-range_with_len}
use Rattle.std.proofs.lemmas.List.Sums.{sum_by-cons, count_by-le-length, passes_at_first}
use Rattle.song_model.specs.declared.instruments.TheConstants.{MOST_INSTRUMENTS}
use Rattle.song_model.specs.declared.songs.Song.{Song}
use Rattle.song_model.specs.LookUp.{instrument_at}
use Rattle.song_facts.specs.declared.hold.Hold.{Hold}
use Rattle.song_facts.specs.declared.hold.Hold.TheVariants.{Nothing, Envelope, Gate}
use Rattle.song_facts.specs.Hold.{hold_of, how_much}
use Rattle.packing_rules.specs.Segments.{numbers}
use Rattle.packing_rules.specs.UsedSets.{UsedSets}
use Rattle.packing_rules.specs.Renumbering.{holders, instruments_in_order, place_in, instrument_number}
use Rattle.packing_rules.proofs.FirstSeen.{any_filter}
use Rattle.packing_rules.proofs.FirstPlaces.{place_there}

-- ---- how many

abbrev bit : Bool → ℕ
bit b = if b then 1 else 0

one_more : {X : Type 0} (p : X → Bool) (x : X) (xs : List X) →
    length (filter p (x ∷ xs)) ≡ bit (p x) + length (filter p xs)
one_more p x xs = by_test (p x) refl
  where
    by_test : (b : Bool) → p x ≡ b → length (filter p (x ∷ xs)) ≡ bit (p x) + length (filter p xs)
    by_test true e = rw e (omega arith)
    by_test false e = rw e (omega arith)

-- whether a number is used and holds this
abbrev is_holder : Bool → Hold → Hold → Bool
is_holder used hold such = used && (how_much hold == how_much such)

-- a used one holds one of the three
one_of_three : (used : Bool) (hold : Hold) →
    bit (is_holder used hold Nothing) + (bit (is_holder used hold Envelope) + bit (is_holder used hold Gate)) ≡ bit used
one_of_three false hold = refl
one_of_three true Nothing = refl
one_of_three true Envelope = refl
one_of_three true Gate = refl

three_count : (used : ℕ → Bool) (hold : ℕ → Hold) (ns : List ℕ) →
    length (filter (λ n. is_holder (used n) (hold n) Nothing) ns)
    + (length (filter (λ n. is_holder (used n) (hold n) Envelope) ns)
    + length (filter (λ n. is_holder (used n) (hold n) Gate) ns))
    ≡ count_by used ns
three_count used hold [] = refl
three_count used hold (n ∷ ns) =
    let nothing = one_more (λ k. is_holder (used k) (hold k) Nothing) n ns in
    let envelope = one_more (λ k. is_holder (used k) (hold k) Envelope) n ns in
    let gate = one_more (λ k. is_holder (used k) (hold k) Gate) n ns in
    let one = one_of_three (used n) (hold n) in
    let count = sum_by-cons (λ k. bit (used k)) n ns in
    let rest = three_count used hold ns in
    omega arith

module _ (song : Song) (used : UsedSets) where
  order_count : length (instruments_in_order song used) ≡ 1 + count_by used.instruments (range_with_len 2 62)
  unfolding instruments_in_order
  order_count =
      let all = length-append (holders song used Nothing) (holders song used Envelope ++ holders song used Gate) in
      let last = length-append (holders song used Envelope) (holders song used Gate) in
      let count = three_count used.instruments (λ n. hold_of (instrument_at song n)) (range_with_len 2 62) in
      omega arith

  -- there are as many as used ones, and no more than a song may have
  pub instruments_count : used.instruments 1 ≡ true →
      length (instruments_in_order song used) ≡ count_by used.instruments (numbers MOST_INSTRUMENTS)
  instruments_count first =
      let count = sum_by-cons (λ k. bit (used.instruments k)) 1 (range_with_len 2 62) in
      let one : bit (used.instruments 1) ≡ 1 = ap bit first in
      let all = order_count in
      omega arith

  pub instruments_few : length (instruments_in_order song used) ≤ MOST_INSTRUMENTS
  instruments_few =
      let all = order_count in
      let few = count_by-le-length used.instruments (range_with_len 2 62) in
      let long = length-range_with_len 2 62 in
      omega arith

-- ---- places

-- where a number stands among others
pub record IsPlaced (items : List ℕ) (n : ℕ) : Type 0 where
  pub low : 1 ≤ place_in items n
  pub high : place_in items n ≤ length items
  pub there : (d : ℕ) → get_or items (place_in items n - 1) d ≡ n

pub placed : (items : List ℕ) (n : ℕ) → list_any (nat_eq n) items ≡ true → IsPlaced items n
placed items n has =
    let found = place_there (nat_eq n) items has in
    let is : place_in items n ≡ position_or_len (nat_eq n) items + 1 = rw has refl in
    let less : place_in items n - 1 ≡ position_or_len (nat_eq n) items = omega arith in
    record {
      low = omega arith;
      high = omega arith;
      there = λ d. ap (λ (k : ℕ). get_or items k d) less
          ∙ sym (eqb-true n (get_or items (position_or_len (nat_eq n) items) d)
          (passes_at_first (nat_eq n) items d found));
    }

pub not_placed : (items : List ℕ) (n : ℕ) → list_any (nat_eq n) items ≡ false → place_in items n ≡ 0
not_placed items n none = rw none refl

pub place_most : (items : List ℕ) (n : ℕ) → place_in items n ≤ length items
place_most items n = by_test (list_any (nat_eq n) items) refl
  where
    by_test : (b : Bool) → list_any (nat_eq n) items ≡ b → place_in items n ≤ length items
    by_test true has = (placed items n has).high
    by_test false none = let zero_is = not_placed items n none in omega arith

-- ---- the numbers of the order

in_range : (n a k : ℕ) → a ≤ n → n < a + k → list_any (nat_eq n) (range_with_len a k) ≡ true
in_range n a k low high =
    let long = length-range_with_len a k in
    let is = get_or-range_with_len a k (n - a) 0 (omega arith) in
    list_any_at (nat_eq n) (range_with_len a k) (n - a) 0 (omega arith) (eq-eqb n _ (omega arith))

or_true : (b : Bool) → (b || true) ≡ true
or_true true = refl
or_true false = refl

-- an instrument behind the first, in the order
pub record IsHolder (song : Song) (sets : UsedSets) (hold : Hold) (n : ℕ) : Type 0 where
  pub first : 2 ≤ n
  pub last : n ≤ MOST_INSTRUMENTS
  pub kept : sets.instruments n ≡ true
  pub holds : how_much (hold_of (instrument_at song n)) ≡ how_much hold

-- the first instrument, or a used one behind it
pub record IsOfOrder (sets : UsedSets) (n : ℕ) : Type 0 where
  pub first : 1 ≤ n
  pub last : n ≤ MOST_INSTRUMENTS
  pub kept : 2 ≤ n → sets.instruments n ≡ true

record IsBehind (n : ℕ) : Type 0 where
  first : 2 ≤ n
  last : n ≤ MOST_INSTRUMENTS

all_behind : All IsBehind (range_with_len 2 62)
all_behind =
    let long = length-range_with_len 2 62 in
    All-from_get_or IsBehind (range_with_len 2 62) 0
    (λ i inside.
    let is = get_or-range_with_len 2 62 i 0 (omega arith) in record { first = omega arith; last = omega arith })

module _ (song : Song) (used : UsedSets) where
  abbrev test : Hold → ℕ → Bool
  test hold n = used.instruments n && (how_much (hold_of (instrument_at song n)) == how_much hold)

  all_hold : (hold : Hold) → All (IsHolder song used hold) (holders song used hold)
  all_hold hold =
      All-from_get_or (IsHolder song used hold) (holders song used hold) 0
      (λ i inside.
      let n = get_or (holders song used hold) i 0 in
      let behind = All-get_or IsBehind (holders song used hold) i 0 inside
      (All-filter (test hold) IsBehind (range_with_len 2 62) all_behind) in
      let passes = All-get_or (λ k. test hold k ≡ true) (holders song used hold) i 0 inside
      (filter_passes (test hold) (range_with_len 2 62)) in
      let parts = and_parts (used.instruments n)
      (how_much (hold_of (instrument_at song n)) == how_much hold) passes in
      record {
        first = behind.first;
        last = behind.last;
        kept = parts.0;
        holds = eqb-true (how_much (hold_of (instrument_at song n))) (how_much hold) parts.1;
      })

  of_order : (hold : Hold) → All (IsOfOrder used) (holders song used hold)
  of_order hold =
      All-weaker (IsHolder song used hold) (IsOfOrder used)
      (λ n is. let low = is.first in record { first = omega arith; last = is.last; kept = λ behind. is.kept })
      (holders song used hold) (all_hold hold)

  pub all_of_order : All (IsOfOrder used) (instruments_in_order song used)
  unfolding instruments_in_order
  all_of_order =
      All-cons (IsOfOrder used) 1 (holders song used Nothing ++ (holders song used Envelope ++ holders song used Gate))
      (record { first = omega arith; last = omega arith; kept = λ behind. absurd (omega arith) })
      (All-append (IsOfOrder used) (holders song used Nothing) (holders song used Envelope ++ holders song used Gate)
      (of_order Nothing)
      (All-append (IsOfOrder used) (holders song used Envelope) (holders song used Gate) (of_order Envelope)
      (of_order Gate)))

  -- ---- each used instrument is there

  in_holders : (hold : Hold) (n : ℕ) → 2 ≤ n → n ≤ MOST_INSTRUMENTS → used.instruments n ≡ true →
      hold_of (instrument_at song n) ≡ hold → list_any (nat_eq n) (holders song used hold) ≡ true
  in_holders hold n low high kept holds =
      any_filter (nat_eq n) (test hold) (range_with_len 2 62)
      (λ x same.
      let is : n ≡ x = eqb-true n x same in
      ap (test hold) (sym is)
      ∙ and_from (used.instruments n) (how_much (hold_of (instrument_at song n)) == how_much hold) kept
      (eq-eqb (how_much (hold_of (instrument_at song n))) (how_much hold) (ap how_much holds)))
      ∙ in_range n 2 62 low (omega arith)

  in_three : (n : ℕ) → 2 ≤ n → n ≤ MOST_INSTRUMENTS → used.instruments n ≡ true → (hold : Hold) →
      hold_of (instrument_at song n) ≡ hold →
      list_any (nat_eq n) (holders song used Nothing ++ (holders song used Envelope ++ holders song used Gate)) ≡ true
  in_three n low high kept Nothing holds =
      let there = in_holders Nothing n low high kept holds in
      list_any-append (nat_eq n) (holders song used Nothing) (holders song used Envelope ++ holders song used Gate)
      ∙ ap (λ (b : Bool).
      b || list_any (nat_eq n) (holders song used Envelope ++ holders song used Gate)) there
  in_three n low high kept Envelope holds =
      let there = in_holders Envelope n low high kept holds in
      list_any-append (nat_eq n) (holders song used Nothing) (holders song used Envelope ++ holders song used Gate)
      ∙ ap (λ (b : Bool). list_any (nat_eq n) (holders song used Nothing) || b)
      (list_any-append (nat_eq n) (holders song used Envelope) (holders song used Gate)
      ∙ ap (λ (b : Bool). b || list_any (nat_eq n) (holders song used Gate)) there)
      ∙ or_true (list_any (nat_eq n) (holders song used Nothing))
  in_three n low high kept Gate holds =
      let there = in_holders Gate n low high kept holds in
      list_any-append (nat_eq n) (holders song used Nothing) (holders song used Envelope ++ holders song used Gate)
      ∙ ap (λ (b : Bool). list_any (nat_eq n) (holders song used Nothing) || b)
      (list_any-append (nat_eq n) (holders song used Envelope) (holders song used Gate)
      ∙ ap (λ (b : Bool). list_any (nat_eq n) (holders song used Envelope) || b) there
      ∙ or_true (list_any (nat_eq n) (holders song used Envelope)))
      ∙ or_true (list_any (nat_eq n) (holders song used Nothing))

  -- the first, and the used ones behind it
  pub in_order : (n : ℕ) → 1 ≤ n → n ≤ MOST_INSTRUMENTS → used.instruments n ≡ true →
      list_any (nat_eq n) (instruments_in_order song used) ≡ true
  unfolding instruments_in_order
  in_order n low high kept = elim (cases_eq n 1) [
    | inl one ↦ rw one refl
    | inr other ↦ (
        let there = in_three n (grind arith) high kept (hold_of (instrument_at song n)) refl in
        ap (λ (b : Bool). nat_eq n 1 || b) there ∙ or_true (nat_eq n 1))
  ]

  pub instrument_placed : (n : ℕ) → 1 ≤ n → n ≤ MOST_INSTRUMENTS → used.instruments n ≡ true →
      IsPlaced (instruments_in_order song used) n
  instrument_placed n low high kept = placed (instruments_in_order song used) n (in_order n low high kept)

  -- 0 names nothing, and the first instrument stays the first
  pub no_instrument : instrument_number song used 0 ≡ 0
  unfolding instrument_number
  no_instrument =
      not_placed (instruments_in_order song used) 0
      (list_any_none (nat_eq 0) (instruments_in_order song used)
      (All-weaker (IsOfOrder used) (λ n. nat_eq 0 n ≡ false)
      (λ n is. let low = is.first in ne_eqb 0 n (λ (e : 0 ≡ n). omega arith)) (instruments_in_order song used)
      all_of_order))

  pub first_stays_first : instrument_number song used 1 ≡ 1
  unfolding instrument_number instruments_in_order
  first_stays_first = refl

-- ---- what they hold doesn't fall

head_rises : {X : Type 0} (n : X → ℕ) (x : X) (xs : List X) → All (λ y. n x ≤ n y) xs → IsNonDecreasingBy n xs →
    IsNonDecreasingBy n (x ∷ xs)
head_rises n x xs all rise zero zero d least most = omega arith
head_rises n x xs all rise zero (suc j) d least most = All-get_or (λ y. n x ≤ n y) xs j d (omega arith) all
head_rises n x xs all rise (suc i) zero d least most = absurd (omega arith)
head_rises n x xs all rise (suc i) (suc j) d least most = rise i j d (omega arith) (omega arith)

-- items with the same number
same_rises : {X : Type 0} (n : X → ℕ) (t : ℕ) (xs : List X) → All (λ y. n y ≡ t) xs → IsNonDecreasingBy n xs
same_rises n t xs all i j d least most =
    let one = All-get_or (λ y. n y ≡ t) xs i d (omega arith) all in
    let other = All-get_or (λ y. n y ≡ t) xs j d most all in
    omega arith

-- items with at most t, and behind them items with at least t
append_rises : {X : Type 0} (n : X → ℕ) (t : ℕ) (xs ys : List X) → IsNonDecreasingBy n xs → IsNonDecreasingBy n ys →
    All (λ y. n y ≤ t) xs → All (λ y. t ≤ n y) ys → IsNonDecreasingBy n (xs ++ ys)
append_rises n t [] ys rise behind most least = behind
append_rises n t (x ∷ xs) ys rise behind most least =
    let here = All-head (λ y. n y ≤ t) x xs most in
    head_rises n x (xs ++ ys)
    (All-append (λ y. n x ≤ n y) xs ys
    (All-from_get_or (λ y. n x ≤ n y) xs x (λ i inside. rise 0 (suc i) x (omega arith) (omega arith)))
    (All-weaker (λ y. t ≤ n y) (λ y. n x ≤ n y) (λ y low. omega arith) ys least))
    (append_rises n t xs ys (λ i j d low inside. rise (suc i) (suc j) d (omega arith) (omega arith)) behind
    (All-tail (λ y. n y ≤ t) x xs most) least)

module _ (song : Song) (used : UsedSets) where
  abbrev much : ℕ → ℕ
  much n = how_much (hold_of (instrument_at song n))

  all_much : (hold : Hold) → All (λ n. much n ≡ how_much hold) (holders song used hold)
  all_much hold =
      All-weaker (IsHolder song used hold) (λ n. much n ≡ how_much hold) (λ n is. is.holds) (holders song used hold)
      (all_hold song used hold)

  all_most : (hold : Hold) → All (λ n. much n ≤ how_much hold) (holders song used hold)
  all_most hold =
      All-weaker (λ n. much n ≡ how_much hold) (λ n. much n ≤ how_much hold) (λ n is. omega arith)
      (holders song used hold) (all_much hold)

  behind_rises : IsNonDecreasingBy much
      (holders song used Nothing ++ (holders song used Envelope ++ holders song used Gate))
  behind_rises =
      append_rises much 0 (holders song used Nothing) (holders song used Envelope ++ holders song used Gate)
      (same_rises much 0 (holders song used Nothing) (all_much Nothing))
      (append_rises much 1 (holders song used Envelope) (holders song used Gate)
      (same_rises much 1 (holders song used Envelope) (all_much Envelope))
      (same_rises much 2 (holders song used Gate) (all_much Gate)) (all_most Envelope)
      (All-weaker (λ n. much n ≡ 2) (λ n. 1 ≤ much n) (λ n is. omega arith) (holders song used Gate) (all_much Gate)))
      (all_most Nothing)
      (All-from_get_or (λ n. 0 ≤ much n) (holders song used Envelope ++ holders song used Gate) 0
      (λ i inside. omega arith))

  module _ (least : (n : ℕ) → 2 ≤ n → n ≤ MOST_INSTRUMENTS → used.instruments n ≡ true → much 1 ≤ much n) where
    all_least : (hold : Hold) → All (λ n. much 1 ≤ much n) (holders song used hold)
    all_least hold =
        All-weaker (IsHolder song used hold) (λ n. much 1 ≤ much n) (λ n is. least n is.first is.last is.kept)
        (holders song used hold) (all_hold song used hold)

    -- where the first instrument holds no more than another
    pub order_rises :
        IsNonDecreasingBy (λ n. how_much (hold_of (instrument_at song n))) (instruments_in_order song used)
    unfolding instruments_in_order
    order_rises =
        head_rises much 1 (holders song used Nothing ++ (holders song used Envelope ++ holders song used Gate))
        (All-append (λ n. much 1 ≤ much n) (holders song used Nothing)
        (holders song used Envelope ++ holders song used Gate) (all_least Nothing)
        (All-append (λ n. much 1 ≤ much n) (holders song used Envelope) (holders song used Gate) (all_least Envelope)
        (all_least Gate))) behind_rises
