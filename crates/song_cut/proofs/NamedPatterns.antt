-- What a song names that can be played is stored, and the bytes of its orderlists are named.
use Rattle.std.proofs.Common.{◌≡◌, ℕ, zero, suc, ◌<◌, ◌||◌, Bool, true, List, [], ◌∷◌, length, nat_eq}
use Rattle.std.proofs.Common.{All, Contains, refl, sym, ◌∙◌, ap, subst, inl, inr, arith, get_or}
use Rattle.std.specs.List.{flat_map, list_any}
use Rattle.std.proofs.Math.Bool.{or-true}
use Rattle.std.proofs.lemmas.Bool.{cases_Bool, eq-eqb, eqb-true}
use Rattle.std.proofs.lemmas.List.Folds.{list_any-append, list_any_at}
use Rattle.std.proofs.lemmas.List.Elements.{Contains-get_or}
use Rattle.song_model.specs.declared.orders.Order.{Order}
use Rattle.song_model.specs.declared.orders.Subtune.{Subtune}
use Rattle.song_model.specs.declared.songs.Song.{Song}
use Rattle.song_model.specs.LookUp.{order_of, playable_subtunes}
use Rattle.play_model.specs.Used.{IsChannel}
use Rattle.play_model.specs.Playable.{IsPlayable}
use Rattle.play_model.proofs.Laws.{whole_lem}
use Rattle.pattern_cut.specs.Pieces.{orders_of, played_orders, is_named}

-- ---- an item of some lists

pub record IsIn {X : Type 0} (f : X → List ℕ) (xs : List X) (n : ℕ) : Type 0 where
  pub x : X
  pub there : Contains xs x
  pub has : Contains (f x) n

contains_later : {X : Type 0} (y : X) (xs : List X) (x : X) → Contains xs x → Contains (y ∷ xs) x
contains_later y xs x (k, inside, is) = (suc k, omega arith, is)

contains_first : {X : Type 0} (x : X) (xs : List X) → Contains (x ∷ xs) x
contains_first x xs = (0, omega arith, refl)

any_is_there : (ns : List ℕ) (n : ℕ) → list_any (nat_eq n) ns ≡ true → Contains ns n
any_is_there [] n any = absurd (cc)
any_is_there (k ∷ ns) n any = elim (cases_Bool (nat_eq n k)) [
  | inl same ↦ subst (λ (m : ℕ). Contains (k ∷ ns) m) (sym (eqb-true n k same)) (contains_first k ns)
  | inr other ↦ contains_later k ns n (any_is_there ns n (rw other at any))
]

is_in : {X : Type 0} (f : X → List ℕ) (xs : List X) (n : ℕ) → list_any (nat_eq n) (flat_map f xs) ≡ true → IsIn f xs n
is_in f [] n any = absurd (cc)
is_in f (x ∷ xs) n any = elim (cases_Bool (list_any (nat_eq n) (f x))) [
  | inl here ↦ record { x = x; there = contains_first x xs; has = any_is_there (f x) n here }
  | inr not_here ↦ (
      let both : (list_any (nat_eq n) (f x) || list_any (nat_eq n) (flat_map f xs)) ≡ true =
      sym (list_any-append (nat_eq n) (f x) (flat_map f xs)) ∙ any in
      let later = is_in f xs n (rw not_here at both) in
      record { x = later.x; there = contains_later x xs later.x later.there; has = later.has })
]

-- ---- orderlists that are played

record IsOrderOf (subtunes : List Subtune) (order : Order) : Type 0 where
  subtune : Subtune
  there : Contains subtunes subtune
  channel : ℕ
  is_channel : IsChannel channel
  order_is : order ≡ order_of channel subtune

order_there : (subtunes : List Subtune) (order : Order) → Contains (flat_map orders_of subtunes) order →
    IsOrderOf subtunes order
order_there [] order (k, inside, is) = absurd (omega arith)
order_there (s ∷ ss) order (zero, inside, is) = record {
  subtune = s;
  there = contains_first s ss;
  channel = 1;
  is_channel = record { first = omega arith; last = omega arith };
  order_is = sym is;
}
order_there (s ∷ ss) order (suc zero, inside, is) = record {
  subtune = s;
  there = contains_first s ss;
  channel = 2;
  is_channel = record { first = omega arith; last = omega arith };
  order_is = sym is;
}
order_there (s ∷ ss) order (suc (suc zero), inside, is) = record {
  subtune = s;
  there = contains_first s ss;
  channel = 3;
  is_channel = record { first = omega arith; last = omega arith };
  order_is = sym is;
}
order_there (s ∷ ss) order (suc (suc (suc k)), inside, is) =
    let later = order_there ss order (k, omega arith, is) in
    record {
      subtune = later.subtune;
      there = contains_later s ss later.subtune later.there;
      channel = later.channel;
      is_channel = later.is_channel;
      order_is = later.order_is;
    }

-- a pattern that is named is stored
pub named_stored : (song : Song) → IsPlayable song → (n : ℕ) → n < 0xD0 → is_named song n ≡ true →
    n < length song.patterns
unfolding is_named
named_stored song play n low named =
    let found = is_in (λ (order : Order). order.entries) (played_orders song) n named in
    let of = order_there (playable_subtunes song) found.x found.there in
    (whole_lem song play).pattern n (record {
      byte = record {
        order = found.x;
        played = record {
          subtune = of.subtune;
          playable = of.there;
          channel = of.channel;
          is_channel = of.is_channel;
          order_is = of.order_is;
        };
        entry = found.has;
      };
      is_pattern = low;
    })

-- ---- the bytes of these orderlists

abbrev pub AllNamed : Song → List ℕ → Type 0
AllNamed song bytes = All (λ (b : ℕ). is_named song b ≡ true) bytes

any_here : (ns : List ℕ) (n : ℕ) → Contains ns n → list_any (nat_eq n) ns ≡ true
any_here ns n (k, inside, is) =
    list_any_at (nat_eq n) ns k n inside (eq-eqb n (get_or ns k n) (sym is))

pub entries_named : (song : Song) → All (λ (order : Order). AllNamed song order.entries) (played_orders song)
unfolding is_named
entries_named song = each (played_orders song)
    (λ order there n has. found (played_orders song) order n there has)
  where
    found : (orders : List Order) (order : Order) (n : ℕ) → Contains orders order → Contains order.entries n →
        list_any (nat_eq n) (flat_map (λ o. o.entries) orders) ≡ true
    found [] order n (k, inside, is) has = absurd (omega arith)
    found (o ∷ os) order n (zero, inside, is) has =
        let here : list_any (nat_eq n) o.entries ≡ true =
        subst (λ (x : Order). list_any (nat_eq n) x.entries ≡ true) (sym is) (any_here order.entries n has) in
        list_any-append (nat_eq n) o.entries (flat_map (λ x. x.entries) os)
        ∙ ap (λ (b : Bool). b || list_any (nat_eq n) (flat_map (λ x. x.entries) os)) here
    found (o ∷ os) order n (suc k, inside, is) has =
        list_any-append (nat_eq n) o.entries (flat_map (λ x. x.entries) os)
        ∙ ap (λ (b : Bool). list_any (nat_eq n) o.entries || b) (found os order n (k, omega arith, is) has)
        ∙ or-true (list_any (nat_eq n) o.entries)

    each : (orders : List Order) →
        ((order : Order) → Contains orders order → (n : ℕ) → Contains order.entries n → is_named song n ≡ true) →
        All (λ (order : Order). AllNamed song order.entries) orders
    each orders all = λ i d inside. λ k e low.
        all (get_or orders i d) (Contains-get_or orders i d inside) (get_or (get_or orders i d).entries k e)
        (Contains-get_or (get_or orders i d).entries k e low)
