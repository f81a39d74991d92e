-- The numbers whose lines are there, behind what was there before.
use Rattle.std.proofs.Common.{◌≡◌, ◌++◌, take}
use Rattle.bound_text.specs.Texts.{numbers_text}
use Rattle.bound_text.proofs.writing.push_text.Given as goal

abbrev pub invariant-loop-number : goal.invariant-loop-number
invariant-loop-number l = l.text.items ≡ l.initial.text.items ++ numbers_text (take l.number-index l.numbers)
