use Rattle.std.proofs.Common.{◌≡◌, ◌++◌, take}
use Rattle.std.specs.List.{concat, flat_map}
use Rattle.song_lists.specs.DataLists.{orders_of}
use Rattle.song_lists.proofs.bytes.push_orders.Given as goal

abbrev pub invariant-loop-subtune : goal.invariant-loop-subtune
invariant-loop-subtune l = l.bytes ≡ l.initial.bytes ++ concat (flat_map orders_of (take l.subtune-index l.subtunes))
