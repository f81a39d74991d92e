-- The lines that are left, of those up to the end of what is open.
use Rattle.std.proofs.Common.{length, ◌≡◌, ◌+◌, ◌*◌, ◌≤◌, true}
use Rattle.scopes.specs.Trees.{opened}
use Rattle.scope_lines.specs.Readings.{first_of, behind_of, are_open}
use Rattle.cycle_bound.specs.Rules.{nodes}
use Rattle.cycle_bound.proofs.lines.+count.Given as goal

abbrev pub decreases-extent : goal.decreases-extent
decreases-extent l = 2 * length l.rest.now + 1

abbrev pub decreases-count : goal.decreases-count
decreases-count l = 2 * length l.lines.now

abbrev pub invariant-count-loop-line : goal.invariant-count-loop-line
invariant-count-loop-line l = record {
  is_open : are_open (opened l.left) ≡ true;
  counted : l.sum + nodes (first_of (opened l.left)) ≡ nodes (first_of (opened l.lines));
  behind : behind_of (opened l.left) ≡ behind_of (opened l.lines);
  few : l.sum + length l.left ≤ length l.lines;
}

abbrev pub decreases-count-loop-line : goal.decreases-count-loop-line
decreases-count-loop-line l = length l.left
