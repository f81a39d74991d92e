use Rattle.std.proofs.Common.{length}
use Rattle.asm_text.proofs.TextLaws.{IsFront}
use Rattle.asm_text.proofs.reading.script_of.Given as goal

abbrev pub invariant-loop-left : goal.invariant-loop-left
invariant-loop-left l = IsFront l.text l.left l.number l.script

abbrev pub decreases-loop-left : goal.decreases-loop-left
decreases-loop-left l = length l.left
