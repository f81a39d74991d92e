use Rattle.std.proofs.Common.{take}
use Rattle.asm6502.specs.Lines.{kept}
use Rattle.asm6502.specs.Faults.{double_label}
use Rattle.asm6502.specs.Places.{HasPlaces}
use Rattle.asm6502.proofs.Firsts.{IsSearched}
use Rattle.asm6502.proofs.labels.labels_of.Given as goal

abbrev pub invariant-loop-line : goal.invariant-loop-line
invariant-loop-line l =
    HasPlaces l.labels (kept l.set.0 (take l.line-index l.lines))
    × IsSearched (double_label l.set.0) l.lines l.line-index
