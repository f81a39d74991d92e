use Rattle.asm6502.specs.Faults.{unknown_label}
use Rattle.asm6502.proofs.Firsts.{IsSearched}
use Rattle.asm6502.proofs.labels.check_operands.Given as goal

abbrev pub invariant-loop-line : goal.invariant-loop-line
invariant-loop-line l = IsSearched (unknown_label l.set.0 l.lines) l.lines l.line-index
