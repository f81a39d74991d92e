use Rattle.std.proofs.Common.{◌≡◌, ◌≤◌, ◌*◌, take, sum_by}
use Rattle.song_cut.specs.Numbers.{weight_at}
use Rattle.song_cut.proofs.weights.pieces_weight.Given as goal

abbrev pub invariant-loop-number : goal.invariant-loop-number
invariant-loop-number l = record {
  is : l.sum ≡ sum_by (weight_at l.table.pieces.items) (take l.number-index l.order);
  most : l.sum ≤ 65535 * l.number-index;
}
