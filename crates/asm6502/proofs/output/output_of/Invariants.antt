use Rattle.std.proofs.Common.{take}
use Rattle.asm6502.specs.Faults.{far_by}
use Rattle.asm6502.specs.Places.{IsWritten, address_by}
use Rattle.asm6502.proofs.Firsts.{IsSearched}
use Rattle.asm6502.proofs.output.output_of.Given as goal

abbrev pub invariant-loop-number : goal.invariant-loop-number
invariant-loop-number l =
    IsWritten l.output l.labels l.set.0 l.origin (take l.number l.lines)
    × IsSearched (far_by (address_by l.labels l.origin) l.set.0 l.origin) l.lines l.number
