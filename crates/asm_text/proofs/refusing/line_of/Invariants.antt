use Rattle.asm_text.proofs.Looking.{IsLooked}
use Rattle.asm_text.proofs.refusing.line_of.Given as goal

abbrev pub invariant-loop-written : goal.invariant-loop-written
invariant-loop-written l = IsLooked l.sought l.origin l.script l.written-index l.seen
