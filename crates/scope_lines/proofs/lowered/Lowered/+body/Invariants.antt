-- The lines that are left, of those up to the end of what is open, and the lines that they have so far.
use Rattle.std.proofs.Common.{length, ◌≡◌, ◌+◌, ◌≤◌, ◌*◌, ◌++◌, true}
use Rattle.scopes.specs.Trees.{opened}
use Rattle.scope_lines.specs.Sizes.{size}
use Rattle.scope_lines.specs.Lines.{lines}
use Rattle.scope_lines.specs.Ends.{around_of}
use Rattle.scope_lines.specs.Readings.{first_of, behind_of, are_open, holds_in}
use Rattle.scope_lines.proofs.lowered.Lowered.+body.Given as goal

abbrev pub decreases-body : goal.decreases-body
decreases-body l = length l.text.now

abbrev pub invariant-loop-line : goal.invariant-loop-line
invariant-loop-line l = record {
  is_open : are_open (opened l.left) ≡ true;
  so_far : l.self.lines ++ lines (around_of l.around l.scopes l.head) l.self.place (first_of (opened l.left))
      ≡ l.initial.self.lines
      ++ lines (around_of l.around l.scopes l.head) l.initial.self.place (first_of (opened l.text));
  sized : l.self.place + size (holds_in l.around.conditions.0) (first_of (opened l.left))
      ≡ l.initial.self.place + size (holds_in l.around.conditions.0) (first_of (opened l.text));
  behind : behind_of (opened l.left) ≡ behind_of (opened l.text);
  shorter : length l.left ≤ length l.text;
  most : l.self.place + 3 * length l.left ≤ l.initial.self.place + 3 * length l.text;
}

abbrev pub decreases-loop-line : goal.decreases-loop-line
decreases-loop-line l = length l.left
