-- The chosen pieces fit: no choice makes a song heavier, and a song whose patterns stay whole fits.
use Rattle.std.specs.Prelude.{nat_le}
use Rattle.std.proofs.Common.{◌≡◌, ℕ, zero, suc, ◌+◌, ◌*◌, ◌/◌, ◌<◌, ◌≤◌, ◌⊎◌, Bool, true, false, not, List, [], ◌∷◌, map, length}
use Rattle.std.proofs.Common.{get_or, set, replicate, Contains, inl, inr, refl, sym, ap, ◌∙◌, arith, subst}
use Rattle.std.specs.List.{flat_map, fold, sum_by, range_with_len}
use Rattle.std.proofs.lemmas.Bool.{cases_lt, lt-ltb, le-ltb, le-leb}
use Rattle.std.proofs.lemmas.List.{length-map, set-get_or}
use Rattle.std.proofs.lemmas.List.Filters.{length-filter_both}
use Rattle.std.proofs.lemmas.List.FromFn.{length-range_with_len}
use Rattle.std.proofs.lemmas.List.Sums.{sum_by-le, list_all-from_AllPass}
use Rattle.std.proofs.lemmas.List.Elements.{All-weaker}
use Rattle.base.proofs.Laws.{contains_map, get_or-replicate_any, length-flat_map-le, length-flat_map-same}
use Rattle.song_model.specs.declared.rows.Row.{Row}
use Rattle.song_model.specs.declared.orders.Order.{Order}
use Rattle.song_model.specs.declared.orders.Subtune.{Subtune}
use Rattle.song_model.specs.declared.songs.Song.{Song}
use Rattle.song_model.specs.declared.orders.TheConstants.{MOST_ENTRIES}
use Rattle.song_model.specs.declared.patterns.TheConstants.{MOST_PATTERNS}
use Rattle.song_model.specs.Limits.{IsOrder, KeepsLimits}
use Rattle.song_model.specs.PatternLimits.{IsPattern}
use Rattle.song_model.specs.LookUp.{pattern_at, playable_subtunes}
use Rattle.play_model.specs.Used.{IsChannel}
use Rattle.play_model.specs.Playable.{IsPlayable}
use Rattle.pattern_pack.proofs.Laws.{text_is_short}
use Rattle.packing_rules.proofs.Laws.{first_seen_length}
use Rattle.pattern_cut.specs.declared.lengths.PieceLength.{PieceLength}
use Rattle.pattern_cut.specs.declared.lengths.PieceLength.TheVariants.{Whole, Rows64, Rows32, Rows16, Rows8}
use Rattle.pattern_cut.specs.Choice.{lighter, lightest, cut_weight, short_lengths, settled, settled_from, chosen_ways}
use Rattle.pattern_cut.specs.Choice.{all_orders, fits, pattern_weight, too_heavy, weight, cut_song}
use Rattle.pattern_cut.specs.CutLaws.{ChosenCutsFit, ChosenWaysWeighNoMore}
use Rattle.pattern_cut.specs.Cuts.{in_pieces, cut_order}
use Rattle.pattern_cut.specs.Pieces.{rows_of, slice, slices, orders_of, played_orders, is_named, named, is_repeated}
use Rattle.pattern_cut.specs.CutSongs.{Ways, pieces_of, same_rows, all_pieces, piece_numbers, cut_subtune, cut_with}
use Rattle.pattern_cut.proofs.Lists.{comes_from, of_map, each_item}
use Rattle.pattern_cut.proofs.Numbers.{place_of}
use Rattle.pattern_cut.proofs.Orders.{Cut, played_there, stored, alone, several}
use Rattle.pattern_cut.proofs.Limits.{named_pattern, patterns_are, playable_few, playable_is}

-- ---- the lightest

module _ {X : Type 0} (weighs : X → ℕ) where
  lighter_most : (one other : X) →
      (weighs (lighter weighs one other) ≤ weighs one) × (weighs (lighter weighs one other) ≤ weighs other)
  lighter_most one other = elim (cases_lt (weighs other) (weighs one)) [
    | inl less ↦ rw (lt-ltb (weighs other) (weighs one) less) (omega arith, omega arith)
    | inr not_less ↦ rw (le-ltb (weighs other) (weighs one) not_less) (omega arith, omega arith)
  ]

  pub lightest_first : (first : X) (others : List X) → weighs (lightest weighs first others) ≤ weighs first
  lightest_first first [] = omega arith
  lightest_first first (x ∷ others) =
      let rest = lightest_first (lighter weighs first x) others in
      let step = (lighter_most first x).0 in
      omega (arith, rest, step)

  pub lightest_each : (first : X) (others : List X) (x : X) → Contains others x →
      weighs (lightest weighs first others) ≤ weighs x
  lightest_each first [] x (k, inside, is) = absurd (omega arith)
  lightest_each first (y ∷ others) x (zero, inside, is) =
      let rest = lightest_first (lighter weighs first y) others in
      let step = subst (λ z. weighs (lighter weighs first y) ≤ weighs z) is (lighter_most first y).1 in
      omega (arith, rest, step)
  lightest_each first (y ∷ others) x (suc k, inside, is) =
      lightest_each (lighter weighs first y) others x (k, omega arith, is)

-- ---- one pattern after the other

a_length : (l : PieceLength) → (l ≡ Whole) ⊎ Contains short_lengths l
a_length Whole = inl refl
a_length Rows64 = inr (0, omega arith, refl)
a_length Rows32 = inr (1, omega arith, refl)
a_length Rows16 = inr (2, omega arith, refl)
a_length Rows8 = inr (3, omega arith, refl)

settled_lighter : (song : Song) (ways : Ways) (n : ℕ) → cut_weight song (settled song ways n) ≤ cut_weight song ways
unfolding settled
settled_lighter song ways n =
    let now = get_or ways n Whole in
    let stays = set-get_or ways n Whole in
    elim (a_length now) [
      | inl whole ↦
          subst (λ w. cut_weight song (settled song ways n) ≤ cut_weight song w)
          (ap (set ways n) (sym whole) ∙ stays)
          (lightest_first (cut_weight song) (set ways n Whole) (map (set ways n) short_lengths))
      | inr short ↦
          subst (λ w. cut_weight song (settled song ways n) ≤ cut_weight song w) stays
          (lightest_each (cut_weight song) (set ways n Whole) (map (set ways n) short_lengths) (set ways n now)
          (contains_map (set ways n) short_lengths now short))
    ]

all_settled_lighter : (song : Song) (ns : List ℕ) (ways : Ways) →
    cut_weight song (fold (settled song) ways ns) ≤ cut_weight song ways
all_settled_lighter song [] ways = omega arith
all_settled_lighter song (n ∷ ns) ways =
    let first = settled_lighter song ways n in
    let rest = all_settled_lighter song ns (settled song ways n) in
    omega (arith, first, rest)

-- the choice is no heavier than what comes of each length, and that is no heavier than where it began
chosen_lighter : (song : Song) (l : PieceLength) →
    cut_weight song (chosen_ways song) ≤ cut_weight song (settled_from song l)
unfolding chosen_ways
chosen_lighter song l = elim (a_length l) [
  | inl whole ↦
      subst (λ k. cut_weight song (chosen_ways song) ≤ cut_weight song (settled_from song k)) (sym whole)
      (lightest_first (cut_weight song) (settled_from song Whole) (map (settled_from song) short_lengths))
  | inr short ↦
      lightest_each (cut_weight song) (settled_from song Whole) (map (settled_from song) short_lengths)
      (settled_from song l) (contains_map (settled_from song) short_lengths l short)
]

pub chosen_ways_weigh_no_more_lem : ChosenWaysWeighNoMore
unfolding settled_from
chosen_ways_weigh_no_more_lem song l =
    let first = chosen_lighter song l in
    let rest = all_settled_lighter song (named song) (replicate MOST_PATTERNS l) in
    omega (arith, first, rest)

-- ---- whole patterns

first : IsChannel 1
first = record { first = omega arith; last = omega arith }

second : IsChannel 2
second = record { first = omega arith; last = omega arith }

third : IsChannel 3
third = record { first = omega arith; last = omega arith }

module _ (song : Song) (limits : KeepsLimits song) (playable : IsPlayable song) where
  abbrev whole : Ways
  whole = replicate MOST_PATTERNS Whole

  one_slice : (rows : List Row) → IsPattern rows → length (slices 128 rows) ≡ 1
  one_slice rows is =
      let least = is.count.least in
      let most = is.count.most in
      let one : (length rows + 127) / 128 ≡ 1 = omega (arith, least, most) in
      length-map (range_with_len 0 ((length rows + 127) / 128)) (slice 128 rows)
      ∙ length-range_with_len 0 ((length rows + 127) / 128) ∙ one

  one_piece : (n : ℕ) → IsPattern (pattern_at song n) → length (pieces_of song whole n) ≡ 1
  unfolding pieces_of
  one_piece n is = by_repeat (is_repeated song n) refl
    where
      by_repeat : (b : Bool) → is_repeated song n ≡ b → length (pieces_of song whole n) ≡ 1
      by_repeat true e = rw e refl
      by_repeat false e =
          rw e (ap (λ (l : PieceLength). length (slices (rows_of l) (pattern_at song n)))
          (get_or-replicate_any MOST_PATTERNS n Whole) ∙ one_slice (pattern_at song n) is)

  -- no piece more than there are patterns
  few_pieces : length (all_pieces song whole) ≤ MOST_PATTERNS
  unfolding all_pieces named
  few_pieces =
      let seen = first_seen_length same_rows (flat_map (pieces_of song whole) (named song)) in
      let pieces = length-flat_map-le (pieces_of song whole) (λ n. length (pieces_of song whole n) ≤ 1) 1 (λ n h. h)
      (named song) (each_item (λ n. length (pieces_of song whole n) ≤ 1) (named song)
      (λ n has. let one = one_piece n (named_pattern song limits playable n has) in omega (arith, one))) in
      let both = length-filter_both (is_named song) (λ n. not (is_named song n)) (λ n. refl) (range_with_len 0 MOST_PATTERNS) in
      let all = length-range_with_len 0 MOST_PATTERNS in
      omega (arith, seen, pieces, both, all)

  c : Cut song whole
  c = record { limits = limits; playable = playable; few = few_pieces }

  -- no orderlist grows
  one_entry : (order : Order) (byte : ℕ) → Contains (played_orders song) order → Contains order.entries byte →
      length (in_pieces (piece_numbers song whole) byte) ≤ 1
  unfolding piece_numbers
  one_entry order byte played has = elim (cases_lt byte 0xD0) [
    | inl low ↦ rw (several song whole c byte low)
        (let count = length-map (pieces_of song whole byte) (place_of song whole) in
        let one = one_piece byte (stored song limits playable order byte (record { played = played; entry = has; low = low })) in
        omega (arith, count, one))
    | inr high ↦ rw (alone song whole c byte high) (omega arith)
  ]

  entries_stay : (order : Order) → Contains (played_orders song) order →
      length (cut_order (piece_numbers song whole) order).entries ≤ length order.entries
  entries_stay order played =
      let pieces = in_pieces (piece_numbers song whole) in
      let most = length-flat_map-le pieces (λ byte. length (pieces byte) ≤ 1) 1 (λ byte h. h) order.entries
      (each_item (λ byte. length (pieces byte) ≤ 1) order.entries (λ byte has. one_entry order byte played has)) in
      omega (arith, most)

  all_short : (order : Order) → Contains (all_orders (cut_with song whole)) order → length order.entries ≤ MOST_ENTRIES
  unfolding cut_with
  all_short order has =
      let subtunes = map (cut_subtune (piece_numbers song whole)) (playable_subtunes song) in
      let from = comes_from orders_of subtunes order has in
      let cut = of_map (cut_subtune (piece_numbers song whole)) (playable_subtunes song) from.item from.there in
      each_short cut.item cut.there order (subst (λ s. Contains (orders_of s) order) (sym cut.is) from.has)
    where
      short : (order : Order) → Contains (played_orders song) order → IsOrder order →
          length (cut_order (piece_numbers song whole) order).entries ≤ MOST_ENTRIES
      short order played is =
          let stays = entries_stay order played in
          let most = is.entries.count in
          omega (arith, stays, most)

      each_short : (subtune : Subtune) → Contains (playable_subtunes song) subtune → (order : Order) →
          Contains (orders_of (cut_subtune (piece_numbers song whole) subtune)) order → length order.entries ≤ MOST_ENTRIES
      each_short subtune has order (zero, inside, is) =
          subst (λ o. length o.entries ≤ MOST_ENTRIES) is
          (short subtune.one (played_there song subtune 1 has first) (playable_is song whole c subtune has).one)
      each_short subtune has order (suc zero, inside, is) =
          subst (λ o. length o.entries ≤ MOST_ENTRIES) is
          (short subtune.two (played_there song subtune 2 has second) (playable_is song whole c subtune has).two)
      each_short subtune has order (suc (suc zero), inside, is) =
          subst (λ o. length o.entries ≤ MOST_ENTRIES) is
          (short subtune.three (played_there song subtune 3 has third) (playable_is song whole c subtune has).three)
      each_short subtune has order (suc (suc (suc k)), inside, is) = absurd (omega arith)

  whole_fits : fits (cut_with song whole) ≡ true
  unfolding cut_with
  whole_fits =
      rw (le-leb (length (all_pieces song whole)) MOST_PATTERNS few_pieces)
      (list_all-from_AllPass (λ order. nat_le (length order.entries) MOST_ENTRIES) (all_orders (cut_with song whole))
      (each_item (λ order. nat_le (length order.entries) MOST_ENTRIES ≡ true) (all_orders (cut_with song whole))
      (λ order has. le-leb (length order.entries) MOST_ENTRIES (all_short order has))))

  -- ---- weights

  orders_weigh : sum_by (λ (order : Order). length order.entries) (all_orders (cut_with song whole)) ≤ 96 * MOST_ENTRIES
  unfolding cut_with
  orders_weigh =
      let subtunes = map (cut_subtune (piece_numbers song whole)) (playable_subtunes song) in
      let sum = sum_by-le (λ (order : Order). length order.entries) MOST_ENTRIES (all_orders (cut_with song whole))
      (each_item (λ (order : Order). length order.entries ≤ MOST_ENTRIES) (all_orders (cut_with song whole)) all_short) in
      let orders = length-flat_map-same orders_of 3 (λ s. refl) subtunes in
      let count = length-map (playable_subtunes song) (cut_subtune (piece_numbers song whole)) in
      let few = playable_few song whole c in
      let most = limits.subtunes.count in
      omega (arith, sum, orders, count, few, most)

  patterns_weigh : sum_by pattern_weight (all_pieces song whole) ≤ MOST_PATTERNS * 515
  patterns_weigh =
      let sum = sum_by-le pattern_weight 515 (all_pieces song whole)
      (All-weaker IsPattern (λ rows. pattern_weight rows ≤ 515)
      (λ rows is. let most = is.count.most in let text = text_is_short rows in omega (arith, most, text))
      (all_pieces song whole) (patterns_are song whole c)) in
      let few = few_pieces in
      omega (arith, sum, few)

  whole_light : cut_weight song whole < too_heavy
  unfolding weight cut_with
  whole_light =
      let orders = orders_weigh in
      let patterns = patterns_weigh in
      rw whole_fits (omega (arith, orders, patterns))

heavy : (song : Song) → fits song ≡ false → weight song ≡ too_heavy
unfolding weight
heavy song above = rw above refl

pub chosen_cuts_fit_lem : ChosenCutsFit
unfolding cut_song
chosen_cuts_fit_lem song limits playable = by_fit (fits (cut_with song (chosen_ways song))) refl
  where
    by_fit : (b : Bool) → fits (cut_with song (chosen_ways song)) ≡ b → fits (cut_with song (chosen_ways song)) ≡ true
    by_fit true e = e
    by_fit false e =
        let heavy_is = heavy (cut_with song (chosen_ways song)) e in
        let light = whole_light song limits playable in
        let chosen = chosen_ways_weigh_no_more_lem song Whole in
        absurd (omega (arith, heavy_is, light, chosen))
