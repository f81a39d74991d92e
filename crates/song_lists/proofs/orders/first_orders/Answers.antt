-- The addresses are numbers of 16 bits.
use Rattle.std.proofs.Common.{◌≡◌, ℕ, ◌+◌, ◌≤◌, Bool, List, All, ◌∙◌}
use Rattle.std.proofs.lemmas.List.Elements.{All-same}
use Rattle.packed_form.specs.declared.packed_songs.PackedSong.{PackedSong}
use Rattle.song_lists.specs.DataLists.{order_places}
use Rattle.song_lists.specs.ListLaws.{lists_size}
use Rattle.song_lists.proofs.DataPlaces.{order_addresses_fit}
use Rattle.song_lists.proofs.orders.first_orders.Goals as goal

places_fit : (dependent : Bool) (packed : PackedSong) (start : ℕ) (places : List ℕ) →
    places ≡ order_places dependent packed → start + lists_size dependent packed ≤ 0xD000 →
    All (λ place. start + place ≤ 65535) places
places_fit dependent packed start places are most =
    All-same (λ place. start + place ≤ 65535) places (order_places dependent packed) are
    (order_addresses_fit dependent packed start most)

pub address_at-requires : goal.address_at-requires
address_at-requires c =
    places_fit c.args.dependent c.args.packed.now c.args.start c.as_slice-places.result.now
    (c.as_slice-places.ensures ∙ c.in_ok-orders.ensures.orders) c.requires

pub address_at-requires-2 : goal.address_at-requires-2
address_at-requires-2 c =
    places_fit c.args.dependent c.args.packed.now c.args.start c.as_slice-places.result.now
    (c.as_slice-places.ensures ∙ c.in_ok-orders.ensures.orders) c.requires

pub address_at-requires-3 : goal.address_at-requires-3
address_at-requires-3 c =
    places_fit c.args.dependent c.args.packed.now c.args.start c.as_slice-places.result.now
    (c.as_slice-places.ensures ∙ c.in_ok-orders.ensures.orders) c.requires
