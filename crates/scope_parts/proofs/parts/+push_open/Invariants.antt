-- The lines that are left, of those up to the end of what is open, and the parts so far.
use Rattle.std.proofs.Common.{length, ◌≡◌, ◌≤◌, ◌++◌, true}
use Rattle.scopes.specs.Trees.{opened}
use Rattle.scope_lines.specs.Readings.{first_of, behind_of, are_open, holds_in}
use Rattle.scope_parts.specs.Parts.{parts}
use Rattle.scope_parts.proofs.parts.+push_open.Given as goal

abbrev pub decreases-push_open : goal.decreases-push_open
decreases-push_open l = length l.lines.now

abbrev pub invariant-loop-line : goal.invariant-loop-line
invariant-loop-line l = record {
  is_open : are_open (opened l.left) ≡ true;
  so_far : l.list ++ parts (holds_in l.conditions.0) l.around (first_of (opened l.left))
      ≡ l.initial.list ++ parts (holds_in l.conditions.0) l.around (first_of (opened l.lines));
  behind : behind_of (opened l.left) ≡ behind_of (opened l.lines);
  shorter : length l.left ≤ length l.lines;
}

abbrev pub decreases-loop-line : goal.decreases-loop-line
decreases-loop-line l = length l.left
