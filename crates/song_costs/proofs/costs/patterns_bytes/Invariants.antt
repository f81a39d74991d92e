use Rattle.std.proofs.Common.{◌≡◌, ◌≤◌, ◌*◌, take}
use Rattle.std.specs.Prelude.{sum_by}
use Rattle.packed_form.specs.Sizes.{list_size}
use Rattle.song_costs.proofs.costs.patterns_bytes.Given as goal

abbrev pub invariant-loop-pattern : goal.invariant-loop-pattern
invariant-loop-pattern l = record {
  counted : l.bytes ≡ sum_by list_size (take l.pattern-index l.pattern-items);
  most : l.bytes ≤ 258 * l.pattern-index;
}
