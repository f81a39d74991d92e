-- The places are numbers of 16 bits.
use Rattle.std.proofs.Common.{◌≡◌, ℕ, List, length, ap, arith}
use Rattle.std.specs.List.{concat, flat_map}
use Rattle.packed_form.specs.declared.packed_songs.PackedSubtune.{PackedSubtune}
use Rattle.song_lists.specs.DataLists.{orders_of}
use Rattle.song_lists.proofs.Pieces.{places_count, orders_count}
use Rattle.song_lists.proofs.Lists.{texts_end}
use Rattle.song_lists.proofs.places.text_places.Goals as goal

orders_length : (one other : List PackedSubtune) → one ≡ other →
    length (concat (flat_map orders_of one)) ≡ length (concat (flat_map orders_of other))
orders_length one other e = ap (λ (subtunes : List PackedSubtune). length (concat (flat_map orders_of subtunes))) e

pub places_of_orders-requires : goal.places_of_orders-requires
places_of_orders-requires c =
    let end = texts_end c.args.dependent c.args.packed.now in
    let place = c.orders_place-from.ensures.place in
    let orders = orders_length c.as_slice.result.now c.args.packed.now.subtunes c.as_slice.ensures.items in
    let most = c.requires in
    omega arith

pub places_of_patterns-requires : goal.places_of_patterns-requires
places_of_patterns-requires c =
    let end = texts_end c.args.dependent c.args.packed.now in
    let place = c.orders_place-from.ensures.place in
    let orders = orders_length c.as_slice.result.now c.args.packed.now.subtunes c.as_slice.ensures.items in
    let behind = c.in_ok-orders.ensures.end in
    let patterns = ap (λ (texts : List (List ℕ)). length (concat texts)) c.as_slice-2.ensures.items in
    let most = c.requires in
    omega arith

pub returns-clause-few : goal.returns-clause-few
returns-clause-few c =
    let orders = ap (λ (places : List ℕ). length places) c.in_ok-orders.ensures.places in
    let lists = places_count c.orders_place-from.result (flat_map orders_of c.as_slice.result.now) in
    let three = orders_count c.as_slice.result.now in
    let subtunes = ap (λ (subtunes : List PackedSubtune). length subtunes) c.as_slice.ensures.items in
    let most_subtunes = c.as_slice.ensures.limit in
    let patterns = ap (λ (places : List ℕ). length places) c.in_ok-patterns.ensures in
    let texts = places_count c.in_ok-orders.end c.as_slice-2.result.now in
    let stored = ap (λ (texts : List (List ℕ)). length texts) c.as_slice-2.ensures.items in
    let most_patterns = c.as_slice-2.ensures.limit in
    (omega arith, omega arith)
