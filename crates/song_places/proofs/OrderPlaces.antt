-- The first place in orderlists, byte after byte and subtune after subtune.
use Rattle.std.proofs.Common.{◌≡◌, ℕ, ◌+◌, ◌-◌, ◌<◌, ◌≤◌, false, List, [], ◌∷◌, length}
use Rattle.std.proofs.Common.{get_or, Some, slice_get, sym, ◌∙◌, ap, subst, inl, inr, arith}
use Rattle.std.proofs.lemmas.Bool.{cases_lt}
use Rattle.std.proofs.lemmas.Option.{slice_get_within, slice_get-get_or, get_or_from_slice_get}
use Rattle.base.proofs.Laws.{same_some}
use Rattle.song_model.specs.declared.orders.Order.{Order}
use Rattle.song_model.specs.declared.orders.Subtune.{Subtune}
use Rattle.song_model.specs.declared.songs.Song.{Song}
use Rattle.song_model.specs.LookUp.{is_playable_subtune}
use Rattle.play_model.specs.Used.{IsChannel}
use Rattle.play_model.specs.Playable.{HasOrder}
use Rattle.play_model.proofs.Laws.{one_order}
use Rattle.song_places.specs.declared.places.Place.{Place}
use Rattle.song_places.specs.declared.places.Place.TheVariants.{InOrder}
use Rattle.song_places.specs.Needs.{Need}
use Rattle.song_places.specs.Places.{HasByteAt, IsNeededAt}
use Rattle.song_places.specs.Search.{IsNeededUnder, IsFirstUnder, IsNowhereUnder}
use Rattle.song_places.proofs.Search.{first_on, none_on, alone, none_more}
use Rattle.song_places.proofs.Leaves.{inner_kind, inner_subtune, inner_order, order_place}

-- ---- byte after byte

pub byte_found : (song : Song) (need : Need) (s c i : ℕ) (order : Order) (entries : List ℕ) →
    HasOrder song s c order → entries ≡ order.entries → i < length entries →
    need.byte s c (get_or entries i 0) → ((k : ℕ) → k < i → IsNowhereUnder song need (1 ∷ s ∷ c ∷ k ∷ [])) →
    IsFirstUnder song need (1 ∷ s ∷ c ∷ []) (InOrder s c i)
byte_found song need s c i order entries has same inside needs none =
    let there : slice_get entries i ≡ Some (get_or entries i 0) = slice_get-get_or entries i 0 inside in
    first_on song need (1 ∷ s ∷ c ∷ []) i (InOrder s c i) (inner_order s c) none
    (alone song need (InOrder s c i) (record {
      order = order;
      has = has;
      byte = get_or entries i 0;
      there = subst (λ (xs : List ℕ). slice_get xs i ≡ Some (get_or entries i 0)) same there;
      is_meant = needs;
    }))

-- what stands at a place of this orderlist
pub byte_at : (song : Song) (need : Need) (s c i : ℕ) (order : Order) → HasOrder song s c order → (place : Place) →
    IsNeededUnder song need (1 ∷ s ∷ c ∷ i ∷ []) place →
    (byte : ℕ) × (slice_get order.entries i ≡ Some byte) × need.byte s c byte
byte_at song need s c i order has place such =
    let at : HasByteAt song s c i (need.byte s c) =
    subst (IsNeededAt song need) (order_place s c i place such.under) such.needed in (
      at.byte,
      subst (λ (o : Order). slice_get o.entries i ≡ Some at.byte) (one_order song s c order at.order has at.has)
          at.there,
      at.is_meant,
    )

pub byte_passed : (song : Song) (need : Need) (s c i : ℕ) (order : Order) (entries : List ℕ) →
    HasOrder song s c order → entries ≡ order.entries → ¬ need.byte s c (get_or entries i 0) →
    IsNowhereUnder song need (1 ∷ s ∷ c ∷ i ∷ [])
byte_passed song need s c i order entries has same not_needed place such =
    let at = byte_at song need s c i order has place such in
    let found : get_or order.entries i 0 ≡ at.0 = get_or_from_slice_get order.entries i at.0 0 at.1 in
    let same_byte : at.0 ≡ get_or entries i 0 = sym found ∙ ap (λ (xs : List ℕ). get_or xs i 0) (sym same) in
    not_needed (subst (need.byte s c) same_byte at.2)

pub bytes_end : (song : Song) (need : Need) (s c i : ℕ) (order : Order) (entries : List ℕ) →
    HasOrder song s c order → entries ≡ order.entries → length entries ≤ i →
    ((k : ℕ) → k < i → IsNowhereUnder song need (1 ∷ s ∷ c ∷ k ∷ [])) →
    IsNowhereUnder song need (1 ∷ s ∷ c ∷ [])
bytes_end song need s c i order entries has same end none =
    none_on song need (1 ∷ s ∷ c ∷ []) (inner_order s c) (λ k. elim (cases_lt k i) [
      | inl before ↦ none k before
      | inr past ↦ λ place such. (
          let at = byte_at song need s c k order has place such in
          let inside : k < length order.entries = slice_get_within order.entries k at.0 at.1 in
          let few = ap length same in
          absurd (omega arith))
    ])

-- ---- channel after channel

-- where there is no such orderlist nothing is needed
pub no_order : (song : Song) (need : Need) (s c : ℕ) → ((order : Order) → ¬ HasOrder song s c order) →
    IsNowhereUnder song need (1 ∷ s ∷ c ∷ [])
no_order song need s c none = none_on song need (1 ∷ s ∷ c ∷ []) (inner_order s c) (λ i place such.
    (let at : HasByteAt song s c i (need.byte s c) =
    subst (IsNeededAt song need) (order_place s c i place such.under) such.needed in none at.order at.has))

pub no_channel : (song : Song) (need : Need) (s c : ℕ) → ¬ IsChannel c → IsNowhereUnder song need (1 ∷ s ∷ c ∷ [])
no_channel song need s c none = no_order song need s c (λ order has. none has.is_channel)

below_one : (song : Song) (need : Need) (s k : ℕ) → k < 1 → IsNowhereUnder song need (1 ∷ s ∷ k ∷ [])
below_one song need s k few = no_channel song need s k (λ is. (let low = is.first in omega arith))

below_two : (song : Song) (need : Need) (s : ℕ) → IsNowhereUnder song need (1 ∷ s ∷ 1 ∷ []) →
    (k : ℕ) → k < 2 → IsNowhereUnder song need (1 ∷ s ∷ k ∷ [])
below_two song need s one = none_more song need (1 ∷ s ∷ []) 1 (below_one song need s) one

below_three : (song : Song) (need : Need) (s : ℕ) → IsNowhereUnder song need (1 ∷ s ∷ 1 ∷ []) →
    IsNowhereUnder song need (1 ∷ s ∷ 2 ∷ []) → (k : ℕ) → k < 3 → IsNowhereUnder song need (1 ∷ s ∷ k ∷ [])
below_three song need s one two = none_more song need (1 ∷ s ∷ []) 2 (below_two song need s one) two

pub first_in_one : (song : Song) (need : Need) (s : ℕ) (place : Place) →
    IsFirstUnder song need (1 ∷ s ∷ 1 ∷ []) place → IsFirstUnder song need (1 ∷ s ∷ []) place
first_in_one song need s place first =
    first_on song need (1 ∷ s ∷ []) 1 place (inner_subtune s) (below_one song need s) first

pub first_in_two : (song : Song) (need : Need) (s : ℕ) (place : Place) → IsNowhereUnder song need (1 ∷ s ∷ 1 ∷ []) →
    IsFirstUnder song need (1 ∷ s ∷ 2 ∷ []) place → IsFirstUnder song need (1 ∷ s ∷ []) place
first_in_two song need s place one first =
    first_on song need (1 ∷ s ∷ []) 2 place (inner_subtune s) (below_two song need s one) first

pub first_in_three : (song : Song) (need : Need) (s : ℕ) (place : Place) → IsNowhereUnder song need (1 ∷ s ∷ 1 ∷ []) →
    IsNowhereUnder song need (1 ∷ s ∷ 2 ∷ []) → IsFirstUnder song need (1 ∷ s ∷ 3 ∷ []) place →
    IsFirstUnder song need (1 ∷ s ∷ []) place
first_in_three song need s place one two first =
    first_on song need (1 ∷ s ∷ []) 3 place (inner_subtune s) (below_three song need s one two) first

pub none_in_three : (song : Song) (need : Need) (s : ℕ) → IsNowhereUnder song need (1 ∷ s ∷ 1 ∷ []) →
    IsNowhereUnder song need (1 ∷ s ∷ 2 ∷ []) → IsNowhereUnder song need (1 ∷ s ∷ 3 ∷ []) →
    IsNowhereUnder song need (1 ∷ s ∷ [])
none_in_three song need s one two three =
    none_on song need (1 ∷ s ∷ []) (inner_subtune s) (λ k. elim (cases_lt k 4) [
      | inl few ↦ none_more song need (1 ∷ s ∷ []) 3 (below_three song need s one two) three k few
      | inr more ↦ no_channel song need s k (λ is. (let high = is.last in omega arith))
    ])

-- ---- subtune after subtune

pub no_subtune : (song : Song) (need : Need) (s : ℕ) → ((c : ℕ) (order : Order) → ¬ HasOrder song s c order) →
    IsNowhereUnder song need (1 ∷ s ∷ [])
no_subtune song need s none =
    none_on song need (1 ∷ s ∷ []) (inner_subtune s) (λ c. no_order song need s c (none c))

pub not_playable : (song : Song) (need : Need) (s : ℕ) (subtune : Subtune) →
    slice_get song.subtunes (s - 1) ≡ Some subtune → is_playable_subtune subtune ≡ false →
    IsNowhereUnder song need (1 ∷ s ∷ [])
not_playable song need s subtune is out =
    no_subtune song need s (λ c order has. (
    let same : has.subtune ≡ subtune = same_some has.subtune subtune (sym has.subtune_is ∙ is) in
    let playable = has.playable in
    absurd (cc)))

pub none_before : (song : Song) (need : Need) (k : ℕ) → k < 1 → IsNowhereUnder song need (1 ∷ k ∷ [])
none_before song need k few = no_subtune song need k (λ c order has. (let low = has.stored.first in omega arith))

pub first_subtune : (song : Song) (need : Need) (i : ℕ) (place : Place) →
    ((k : ℕ) → k < i + 1 → IsNowhereUnder song need (1 ∷ k ∷ [])) →
    IsFirstUnder song need (1 ∷ (i + 1) ∷ []) place → IsFirstUnder song need (1 ∷ []) place
first_subtune song need i place none first = first_on song need (1 ∷ []) (i + 1) place (inner_kind 1) none first

pub subtune_passed : (song : Song) (need : Need) (i : ℕ) →
    ((k : ℕ) → k < i + 1 → IsNowhereUnder song need (1 ∷ k ∷ [])) →
    IsNowhereUnder song need (1 ∷ (i + 1) ∷ []) →
    (k : ℕ) → k < i + 1 + 1 → IsNowhereUnder song need (1 ∷ k ∷ [])
subtune_passed song need i none here = none_more song need (1 ∷ []) (i + 1) none here

pub subtunes_end : (song : Song) (need : Need) (i : ℕ) → length song.subtunes ≤ i →
    ((k : ℕ) → k < i + 1 → IsNowhereUnder song need (1 ∷ k ∷ [])) → IsNowhereUnder song need (1 ∷ [])
subtunes_end song need i end none = none_on song need (1 ∷ []) (inner_kind 1) (λ k. elim (cases_lt k (i + 1)) [
  | inl before ↦ none k before
  | inr past ↦ no_subtune song need k (λ c order has. (let high = has.stored.last in omega arith))
])
