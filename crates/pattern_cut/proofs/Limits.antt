-- A song whose patterns are cut is within its limits, where the pieces fit.
use Rattle.std.specs.Prelude.{nat_le}
use Rattle.std.proofs.Common.{◌≡◌, ℕ, ◌≤◌, true, not, List, [], ◌∷◌, map, length}
use Rattle.std.proofs.Common.{All, Contains, inl, inr, refl, sym, arith, subst}
use Rattle.std.specs.List.{flat_map, range_with_len}
use Rattle.std.proofs.lemmas.Bool.{cases_lt, and_parts, leb-true, eqb-true}
use Rattle.std.proofs.lemmas.List.{length-map}
use Rattle.std.proofs.lemmas.List.Filters.{length-filter_both}
use Rattle.std.proofs.lemmas.List.Sums.{AllPass-from_list_all}
use Rattle.std.proofs.lemmas.List.Elements.{All-map, All-contains, All-weaker, All-filter}
use Rattle.std.proofs.lemmas.Map.Views.{Contains-from_any}
use Rattle.base.proofs.Laws.{filter_of, contains_map}
use Rattle.song_model.specs.declared.orders.Order.{Order}
use Rattle.song_model.specs.declared.orders.Subtune.{Subtune}
use Rattle.song_model.specs.declared.songs.Song.{Song}
use Rattle.song_model.specs.declared.orders.TheConstants.{MOST_ENTRIES}
use Rattle.song_model.specs.declared.patterns.TheConstants.{MOST_PATTERNS}
use Rattle.song_model.specs.Endless.{IsPatternByte}
use Rattle.song_model.specs.Limits.{IsOrder, IsSubtune, KeepsLimits}
use Rattle.song_model.specs.OrderLimits.{IsEntry}
use Rattle.song_model.specs.PatternLimits.{IsPattern}
use Rattle.song_model.specs.LookUp.{pattern_at, is_playable_subtune, playable_subtunes}
use Rattle.play_model.specs.Playable.{IsPlayable}
use Rattle.packing_rules.proofs.Laws.{first_seen_all}
use Rattle.pattern_cut.specs.Cuts.{in_pieces, cut_order}
use Rattle.pattern_cut.specs.Pieces.{orders_of, played_orders, is_named, named}
use Rattle.pattern_cut.specs.CutSongs.{Ways, pieces_of, same_rows, all_pieces, piece_numbers, cut_subtune, cut_with}
use Rattle.pattern_cut.specs.Choice.{all_orders, fits}
use Rattle.pattern_cut.proofs.Lists.{within, comes_from, each_item, All-flat_map, below, only}
use Rattle.pattern_cut.proofs.Numbers.{pieces_are}
use Rattle.pattern_cut.proofs.Orders.{Cut, IsPlayedIn, played_there, stored, are_pieces_there, alone, several, cut_endless}

-- ---- what fits

few_of : (song : Song) (ways : Ways) → fits (cut_with song ways) ≡ true → length (all_pieces song ways) ≤ MOST_PATTERNS
unfolding cut_with
few_of song ways fit = leb-true (length (all_pieces song ways)) MOST_PATTERNS (and_parts _ _ fit).0

pub cut_of : (song : Song) (ways : Ways) → KeepsLimits song → IsPlayable song → fits (cut_with song ways) ≡ true →
    Cut song ways
cut_of song ways limits playable fit = record { limits = limits; playable = playable; few = few_of song ways fit }

short_of : (song : Song) → fits song ≡ true → (order : Order) → Contains (all_orders song) order →
    length order.entries ≤ MOST_ENTRIES
short_of song fit order has =
    leb-true (length order.entries) MOST_ENTRIES
    (All-contains (λ order. nat_le (length order.entries) MOST_ENTRIES ≡ true) (all_orders song) order
    (AllPass-from_list_all (λ order. nat_le (length order.entries) MOST_ENTRIES) (all_orders song) (and_parts _ _ fit).1) has)

-- ---- named patterns

pub record IsNamedBy (song : Song) (n : ℕ) : Type 0 where
  pub order : Order
  pub is : IsPlayedIn song order n

pub named_by : (song : Song) (n : ℕ) → Contains (named song) n → IsNamedBy song n
unfolding named is_named
named_by song n has =
    let parts = filter_of (is_named song) (range_with_len 0 MOST_PATTERNS) n has in
    let entries = flat_map (λ (order : Order). order.entries) (played_orders song) in
    let from = comes_from (λ (order : Order). order.entries) (played_orders song) n
    (Contains-from_any (λ x y e. eqb-true x y e) n entries parts.1) in
    record {
      order = from.item;
      is = record { played = from.there; entry = from.has; low = below MOST_PATTERNS n parts.0 };
    }

pub named_pattern : (song : Song) → KeepsLimits song → IsPlayable song → (n : ℕ) → Contains (named song) n →
    IsPattern (pattern_at song n)
named_pattern song limits playable n has =
    let by = named_by song n has in stored song limits playable by.order n by.is

-- ---- limits

module _ (song : Song) (ways : Ways) (c : Cut song ways) where
  abbrev numbers : ℕ → List ℕ
  numbers = piece_numbers song ways

  pub patterns_are : All IsPattern (all_pieces song ways)
  unfolding all_pieces
  patterns_are =
      first_seen_all IsPattern same_rows (flat_map (pieces_of song ways) (named song))
      (All-flat_map IsPattern (pieces_of song ways) (named song)
      (each_item (λ n. All IsPattern (pieces_of song ways n)) (named song)
      (λ n has. pieces_are song ways n (named_pattern song c.limits c.playable n has))))

  entry_is : (order : Order) (byte : ℕ) → Contains (played_orders song) order → Contains order.entries byte → IsEntry byte →
      All IsEntry (in_pieces numbers byte)
  entry_is order byte played has is = elim (cases_lt byte 0xD0) [
    | inl low ↦ subst (All IsEntry) (sym (several song ways c byte low))
        (All-weaker IsPatternByte IsEntry (λ m small. omega (arith, small)) (numbers byte)
        (are_pieces_there song ways c order byte played has low).numbers)
    | inr high ↦ subst (All IsEntry) (sym (alone song ways c byte high))
        (each_item IsEntry (byte ∷ []) (λ m there. subst IsEntry (only byte m there) is))
  ]

  order_is : (order : Order) → Contains (played_orders song) order → IsOrder order →
      length (flat_map (in_pieces numbers) order.entries) ≤ MOST_ENTRIES → IsOrder (cut_order numbers order)
  order_is order played is short = record {
    entries = record {
      count = short;
      each = All-flat_map IsEntry (in_pieces numbers) order.entries
          (each_item (λ byte. All IsEntry (in_pieces numbers byte)) order.entries
          (λ byte has. entry_is order byte played has (All-contains IsEntry order.entries byte is.entries.each has)));
    };
    restart = let low = (cut_endless song ways c order played).restart in omega (arith, low, short);
  }

  subtune_is : fits (cut_with song ways) ≡ true → (subtune : Subtune) → Contains (playable_subtunes song) subtune →
      IsSubtune subtune → IsSubtune (cut_subtune numbers subtune)
  unfolding cut_with
  subtune_is fit subtune has is = record {
    one = order_is subtune.one (played_there song subtune 1 has (record { first = omega arith; last = omega arith })) is.one
        (short subtune.one (0, omega arith, refl));
    two = order_is subtune.two (played_there song subtune 2 has (record { first = omega arith; last = omega arith })) is.two
        (short subtune.two (1, omega arith, refl));
    three = order_is subtune.three (played_there song subtune 3 has (record { first = omega arith; last = omega arith }))
        is.three (short subtune.three (2, omega arith, refl));
  }
    where
      short : (order : Order) → Contains (orders_of (cut_subtune numbers subtune)) (cut_order numbers order) →
          length (flat_map (in_pieces numbers) order.entries) ≤ MOST_ENTRIES
      short order there =
          short_of (cut_with song ways) fit (cut_order numbers order)
          (within orders_of (map (cut_subtune numbers) (playable_subtunes song)) (cut_subtune numbers subtune)
          (cut_order numbers order) (contains_map (cut_subtune numbers) (playable_subtunes song) subtune has) there)

  pub playable_few : length (playable_subtunes song) ≤ length song.subtunes
  playable_few =
      let both = length-filter_both is_playable_subtune (λ s. not (is_playable_subtune s)) (λ s. refl) song.subtunes in
      omega (arith, both)

  pub playable_is : (subtune : Subtune) → Contains (playable_subtunes song) subtune → IsSubtune subtune
  playable_is subtune has =
      All-contains IsSubtune (playable_subtunes song) subtune
      (All-filter is_playable_subtune IsSubtune song.subtunes c.limits.subtunes.each) has

  pub cut_keeps_limits : fits (cut_with song ways) ≡ true → KeepsLimits (cut_with song ways)
  unfolding cut_with
  cut_keeps_limits fit = record {
    name = c.limits.name;
    author = c.limits.author;
    copyright = c.limits.copyright;
    subtunes = record {
      count =
          let few = playable_few in
          let most = c.limits.subtunes.count in
          let same = length-map (playable_subtunes song) (cut_subtune numbers) in
          omega (arith, few, most, same);
      each = All-map IsSubtune (cut_subtune numbers) (playable_subtunes song)
          (each_item (λ s. IsSubtune (cut_subtune numbers s)) (playable_subtunes song)
          (λ s has. subtune_is fit s has (playable_is s has)));
    };
    instruments = c.limits.instruments;
    wave = c.limits.wave;
    pulse = c.limits.pulse;
    filter = c.limits.filter;
    speed = c.limits.speed;
    patterns = record { count = c.few; each = patterns_are };
  }
