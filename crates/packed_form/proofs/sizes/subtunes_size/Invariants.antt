use Rattle.std.proofs.Common.{◌≡◌, ◌≤◌, ◌*◌, take}
use Rattle.std.specs.Prelude.{sum_by}
use Rattle.packed_form.specs.Sizes.{subtune_size}
use Rattle.packed_form.proofs.sizes.subtunes_size.Given as goal

abbrev pub invariant-loop-subtune : goal.invariant-loop-subtune
invariant-loop-subtune l = record {
  size : l.size ≡ sum_by subtune_size (take l.subtune-index l.subtune-items);
  most : l.size ≤ 774 * l.subtune-index;
}
