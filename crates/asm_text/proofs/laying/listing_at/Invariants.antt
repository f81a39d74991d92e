use Rattle.std.proofs.Common.{take}
use Rattle.asm_text.proofs.Laid.{IsLaid}
use Rattle.asm_text.proofs.laying.listing_at.Given as goal

abbrev pub invariant-loop-written : goal.invariant-loop-written
invariant-loop-written l = IsLaid l.origin (take l.written-index l.script) l.listing l.pc
