-- The count of the walks of a packed song.
use Rattle.std.proofs.Common.{◌≡◌, ℕ, ◌+◌, ◌<◌, ◌≤◌, false, cond, eqb, leb, List, [], ◌∷◌}
use Rattle.std.proofs.Common.{length, get_or, drop, refl, inl, inr, arith}
use Rattle.std.specs.List.{prefix_len, All}
use Rattle.std.proofs.lemmas.Bool.{cases_lt, cond_both, lt-leb}
use Rattle.std.proofs.lemmas.List.Elements.{All-head, All-drop, Contains-get_or}
use Rattle.song_model.specs.declared.orders.Order.{Order}
use Rattle.song_model.specs.declared.orders.Subtune.{Subtune}
use Rattle.song_model.specs.LookUp.{order_of}
use Rattle.song_model.specs.Endless.{IsPatternByte}
use Rattle.packed_form.specs.declared.packed_songs.PackedSubtune.{PackedSubtune}
use Rattle.packed_form.specs.declared.packed_songs.PackedSong.{PackedSong}
use Rattle.packed_form.specs.Unpacked.{unpacked_order, unpacked_subtune}
use Rattle.packed_form.specs.WalkCount.{is_passed, looks_from, most_looks, subtune_looks, walk_count}
use Rattle.packed_form.specs.WalkLaws.{IsOrderOf, WalksEnd, WalkCountsAreBytes, EndmarksCount, PlainWalksAreTwo}
use Rattle.packed_form.proofs.Greatest.{greatest_has, greatest_within}
use Rattle.packed_form.proofs.OrderWalks.{looks_pattern, looks_behind, looks_go_on, looks_within, most_at, most_within}

-- an orderlist of a subtune has no more than the subtune
pub subtune_at : (subtune : Subtune) (channel : ℕ) → most_looks (order_of channel subtune) ≤ subtune_looks subtune
subtune_at subtune channel =
    cond_both (eqb channel 1) subtune.one (cond (eqb channel 2) subtune.two subtune.three)
    (λ order. most_looks order ≤ subtune_looks subtune) (λ e. omega arith)
    (λ e. cond_both (eqb channel 2) subtune.two subtune.three (λ order. most_looks order ≤ subtune_looks subtune)
    (λ f. omega arith) (λ f. omega arith))

subtune_within : (subtune : Subtune) (m : ℕ) →
    ((channel : ℕ) → 1 ≤ channel → channel ≤ 3 → most_looks (order_of channel subtune) ≤ m) → subtune_looks subtune ≤ m
subtune_within subtune m each =
    let one = each 1 (omega arith) (omega arith) in
    let two = each 2 (omega arith) (omega arith) in
    let three = each 3 (omega arith) (omega arith) in
    omega (arith, one, two, three)

-- one of the looks of a packed song's orderlists is below its count
pub looks_below : (packed : PackedSong) (order : Order) (place : ℕ) → IsOrderOf packed order →
    place ≤ length order.entries → looks_from order place < walk_count packed
unfolding walk_count
looks_below packed order place is inside =
    let here = most_at order place inside in
    let order_within : most_looks order ≤ subtune_looks (unpacked_subtune is.subtune) =
    rw is.order_is (subtune_at (unpacked_subtune is.subtune) is.channel) in
    let song =
    greatest_has (λ subtune. subtune_looks (unpacked_subtune subtune)) packed.subtunes is.subtune is.stored in
    omega (arith, here, order_within, song)

pub walks_end : WalksEnd
walks_end packed order is endless = record {
  goes_on = looks_go_on order endless;
  within = λ place inside. looks_below packed order place is inside;
}

-- what each orderlist is within, the count is within
pub count_within : (packed : PackedSong) (m : ℕ) → ((order : Order) → IsOrderOf packed order → most_looks order ≤ m) →
    walk_count packed ≤ 1 + m
unfolding walk_count
count_within packed m each =
    let song =
    greatest_within (λ subtune. subtune_looks (unpacked_subtune subtune)) m packed.subtunes (λ k d inside.
    subtune_within (unpacked_subtune (get_or packed.subtunes k d)) m (λ channel first last.
    each (order_of channel (unpacked_subtune (get_or packed.subtunes k d))) (record {
      subtune = get_or packed.subtunes k d;
      stored = Contains-get_or packed.subtunes k d inside;
      channel = channel;
      is_channel = record { first = first; last = last };
      order_is = refl;
    }))) in
    omega (arith, song)

pub walk_counts_are_bytes : WalkCountsAreBytes
walk_counts_are_bytes packed each =
    count_within packed 254 (λ order is.
    let sound = each order is in
    most_within order 254 (λ place inside.
    omega (arith, sound.short, looks_within order place sound.endless inside)))

no_subtune : PackedSubtune
no_subtune = record { one = []; two = []; three = [] }

pub endmarks_count : EndmarksCount
endmarks_count packed some =
    let subtune = get_or packed.subtunes 0 no_subtune in
    let order = unpacked_order subtune.one in
    let is : IsOrderOf packed order = record {
      subtune = subtune;
      stored = Contains-get_or packed.subtunes 0 no_subtune some;
      channel = 1;
      is_channel = record { first = omega arith; last = omega arith };
      order_is = refl;
    } in
    let below = looks_below packed order (length order.entries) is (omega arith) in
    let behind = looks_behind order (length order.entries) (omega arith) in
    omega (arith, below, behind)

plain_stops : (bytes : List ℕ) → All IsPatternByte bytes → prefix_len is_passed bytes ≡ 0
plain_stops [] plain = refl
plain_stops (byte ∷ bytes) plain =
    let test : leb 0xD0 byte ≡ false = lt-leb 0xD0 byte (All-head IsPatternByte byte bytes plain) in
    rw test refl

plain_looks : (order : Order) (place : ℕ) → All IsPatternByte order.entries → looks_from order place ≤ 1
plain_looks order place plain = elim (cases_lt place (length order.entries)) [
  | inl lt ↦ omega (arith, looks_pattern order place lt (plain place 0 lt))
  | inr ge ↦
      let behind = looks_behind order place ge in
      let none =
      plain_stops (drop order.restart order.entries) (All-drop IsPatternByte order.restart order.entries plain) in
      omega (arith, behind, none)
]

pub plain_walks_are_two : PlainWalksAreTwo
plain_walks_are_two packed some plain =
    let most =
    count_within packed 1 (λ order is.
    most_within order 1 (λ place inside. plain_looks order place (plain order is))) in
    omega (arith, most, endmarks_count packed some)
