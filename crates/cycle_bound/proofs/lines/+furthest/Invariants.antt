-- The lines that are left, of those up to the end of what is open.
use Rattle.std.proofs.Common.{length, max, ◌≡◌, ◌+◌, ◌*◌, ◌≤◌, true}
use Rattle.scopes.specs.Trees.{opened}
use Rattle.scope_lines.specs.Readings.{first_of, behind_of, are_open, holds_in}
use Rattle.cycle_bound.specs.Rules.{furthest}
use Rattle.cycle_bound.specs.Lines.{ends_of}
use Rattle.cycle_bound.proofs.lines.+furthest.Given as goal

abbrev pub decreases-line_furthest : goal.decreases-line_furthest
decreases-line_furthest l = 2 * length l.rest.now + 1

abbrev pub decreases-furthest : goal.decreases-furthest
decreases-furthest l = 2 * length l.lines.now

abbrev pub invariant-furthest-loop-line : goal.invariant-furthest-loop-line
invariant-furthest-loop-line l = record {
  is_open : are_open (opened l.left) ≡ true;
  far : max l.far (furthest (holds_in l.conditions.0) (ends_of l.ends) (first_of (opened l.left)))
      ≡ furthest (holds_in l.conditions.0) (ends_of l.ends) (first_of (opened l.lines));
  behind : behind_of (opened l.left) ≡ behind_of (opened l.lines);
  shorter : length l.left ≤ length l.lines;
}

abbrev pub decreases-furthest-loop-line : goal.decreases-furthest-loop-line
decreases-furthest-loop-line l = length l.left
