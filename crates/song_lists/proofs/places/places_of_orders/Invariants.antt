use Rattle.std.proofs.Common.{◌≡◌, ◌+◌, length, take}
use Rattle.std.specs.List.{concat, flat_map}
use Rattle.song_lists.specs.DataLists.{orders_of, places_from}
use Rattle.song_lists.proofs.places.places_of_orders.Given as goal

abbrev pub invariant-loop-subtune : goal.invariant-loop-subtune
invariant-loop-subtune l = record {
  places : l.places ≡ places_from l.from (flat_map orders_of (take l.subtune-index l.subtunes));
  place : l.place ≡ l.from + length (concat (flat_map orders_of (take l.subtune-index l.subtunes)));
}
