use Rattle.std.proofs.Common.{length}
use Rattle.asm_text.proofs.Printed.{IsPrinted}
use Rattle.asm_text.proofs.printing.print.Given as goal

abbrev pub invariant-loop-left : goal.invariant-loop-left
invariant-loop-left l = IsPrinted l.origin l.image l.left l.pc l.text

abbrev pub decreases-loop-left : goal.decreases-loop-left
decreases-loop-left l = length l.left
