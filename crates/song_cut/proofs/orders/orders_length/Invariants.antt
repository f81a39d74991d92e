use Rattle.std.proofs.Common.{◌≡◌, ◌≤◌, ◌*◌, take}
use Rattle.std.specs.List.{flat_map}
use Rattle.song_cut.specs.Marks.{orders_if_played}
use Rattle.song_cut.specs.Orders.{all_added}
use Rattle.song_cut.proofs.orders.orders_length.Given as goal

abbrev pub invariant-loop-subtune : goal.invariant-loop-subtune
invariant-loop-subtune l = record {
  are : l.lengths ≡ all_added l.counts l.initial.lengths (flat_map orders_if_played (take l.subtune-index l.stored));
  most : l.lengths.sum ≤ 65535 * 3 * l.subtune-index;
}
