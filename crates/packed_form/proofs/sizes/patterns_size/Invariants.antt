use Rattle.std.proofs.Common.{◌≡◌, ◌≤◌, ◌*◌, take}
use Rattle.std.specs.Prelude.{sum_by}
use Rattle.packed_form.specs.Sizes.{list_size}
use Rattle.packed_form.proofs.sizes.patterns_size.Given as goal

abbrev pub invariant-loop-pattern : goal.invariant-loop-pattern
invariant-loop-pattern l = record {
  size : l.size ≡ sum_by list_size (take l.pattern-index l.pattern-items);
  most : l.size ≤ 258 * l.pattern-index;
}
