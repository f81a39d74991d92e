-- The lines that are left, of those up to the end of what is open, and what is around them.
use Rattle.std.proofs.Common.{length, ◌≡◌, ◌+◌, ◌≤◌, ◌*◌, true, IfSome}
use Rattle.scopes.specs.Trees.{opened}
use Rattle.scope_lines.specs.Sizes.{most}
use Rattle.scope_lines.specs.Reach.{has_lines}
use Rattle.scope_lines.specs.Readings.{first_of, are_open}
use Rattle.block_cases.specs.Reaches.{reach_of}
use Rattle.block_cases.proofs.reach.+reach.Given as goal

abbrev pub decreases-reaches : goal.decreases-reaches
decreases-reaches l = 2 * length l.rest.now + 2

abbrev pub decreases-all_reach : goal.decreases-all_reach
decreases-all_reach l = 2 * length l.lines.now + 1

abbrev pub invariant-all_reach-loop-line : goal.invariant-all_reach-loop-line
invariant-all_reach-loop-line l = record {
  is_open : are_open (opened l.left) ≡ true;
  sized : l.more ≡ most (first_of (opened l.left));
  so_far : has_lines (reach_of (record l.around { head = l.head })) (first_of (opened l.left))
      ≡ has_lines (reach_of l.around) (first_of (opened l.lines));
  shorter : length l.left ≤ length l.lines;
  near : IfSome l.head (λ far. far + l.more ≤ 65000);
}

abbrev pub decreases-all_reach-loop-line : goal.decreases-all_reach-loop-line
decreases-all_reach-loop-line l = length l.left
