use Rattle.asm6502.specs.Faults.{bad_line}
use Rattle.asm6502.proofs.Firsts.{IsSearched}
use Rattle.asm6502.proofs.labels.check_lines.Given as goal

abbrev pub invariant-loop-place : goal.invariant-loop-place
invariant-loop-place l = IsSearched (bad_line l.set.0) l.lines l.place
