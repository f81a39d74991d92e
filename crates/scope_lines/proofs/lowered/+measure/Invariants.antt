-- The lines that are left, of those up to the end of what is open.
use Rattle.std.proofs.Common.{length, ◌≡◌, ◌+◌, ◌≤◌, ◌*◌, true}
use Rattle.scopes.specs.Trees.{opened}
use Rattle.scope_lines.specs.Sizes.{size}
use Rattle.scope_lines.specs.Readings.{first_of, behind_of, are_open, holds_in}
use Rattle.scope_lines.proofs.lowered.+measure.Given as goal

abbrev pub decreases-measure : goal.decreases-measure
decreases-measure l = length l.lines.now

abbrev pub invariant-loop-line : goal.invariant-loop-line
invariant-loop-line l = record {
  is_open : are_open (opened l.left) ≡ true;
  sized : l.size + size (holds_in l.conditions.0) (first_of (opened l.left))
      ≡ size (holds_in l.conditions.0) (first_of (opened l.lines));
  behind : behind_of (opened l.left) ≡ behind_of (opened l.lines);
  shorter : length l.left ≤ length l.lines;
  most : l.size + 3 * length l.left ≤ 3 * length l.lines;
}

abbrev pub decreases-loop-line : goal.decreases-loop-line
decreases-loop-line l = length l.left
