use Rattle.std.proofs.Common.{◌≤◌, ◌+◌, length}
use Rattle.edit_script.proofs.TextLaws.{IsFront}
use Rattle.edit_script.proofs.parsing.parse.Given as goal

abbrev pub invariant-loop-left : goal.invariant-loop-left
invariant-loop-left l = record {
  read : IsFront l.text l.left l.number l.script;
  few : l.number + length l.left ≤ length l.text;
}

abbrev pub decreases-loop-left : goal.decreases-loop-left
decreases-loop-left l = length l.left
