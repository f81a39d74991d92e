-- The numbers of the lines that have been read, and what is left.
use Rattle.std.proofs.Common.{◌≡◌, ◌++◌, length}
use Rattle.cycle_bound.specs.Least.{Fit}
use Rattle.bound_text.specs.Texts.{numbers_text}
use Rattle.bound_text.proofs.reading.read.Given as goal

abbrev pub invariant-loop-left : goal.invariant-loop-left
invariant-loop-left l = record {
  are : l.text ≡ numbers_text l.numbers ++ l.left;
  fit : Fit l.numbers;
}

abbrev pub decreases-loop-left : goal.decreases-loop-left
decreases-loop-left l = length l.left
