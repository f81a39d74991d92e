-- The lines that are left, of those up to the end of what is open.
use Rattle.std.proofs.Common.{length, ◌≡◌, ◌+◌, ◌≤◌, ◌*◌, true}
use Rattle.scopes.specs.Trees.{opened}
use Rattle.scope_lines.specs.Sizes.{most}
use Rattle.scope_lines.specs.Readings.{first_of, behind_of, are_open}
use Rattle.block_cases.proofs.sizes.+sizes.Given as goal

abbrev pub decreases-extent : goal.decreases-extent
decreases-extent l = 2 * length l.rest.now + 2

abbrev pub decreases-most_of : goal.decreases-most_of
decreases-most_of l = 2 * length l.lines.now + 1

abbrev pub invariant-most_of-loop-line : goal.invariant-most_of-loop-line
invariant-most_of-loop-line l = record {
  is_open : are_open (opened l.left) ≡ true;
  sized : l.most + most (first_of (opened l.left)) ≡ most (first_of (opened l.lines));
  behind : behind_of (opened l.left) ≡ behind_of (opened l.lines);
  shorter : length l.left ≤ length l.lines;
  few : l.most + 3 * length l.left ≤ 3 * length l.lines;
}

abbrev pub decreases-most_of-loop-line : goal.decreases-most_of-loop-line
decreases-most_of-loop-line l = length l.left
