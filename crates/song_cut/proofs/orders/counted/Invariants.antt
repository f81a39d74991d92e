use Rattle.std.proofs.Common.{◌≡◌, ◌≤◌, ◌*◌, take}
use Rattle.song_cut.specs.Orders.{counted}
use Rattle.song_cut.proofs.orders.counted.Given as goal

abbrev pub invariant-loop-byte : goal.invariant-loop-byte
invariant-loop-byte l = record {
  is : l.sum ≡ counted l.counts (take l.byte-index l.entries);
  most : l.sum ≤ 255 * l.byte-index;
}
