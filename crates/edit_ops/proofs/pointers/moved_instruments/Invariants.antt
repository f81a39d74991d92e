use Rattle.std.proofs.Common.{◌≡◌, map, take}
use Rattle.edit_ops.specs.Pointers.{shifted, moved_instrument}
use Rattle.edit_ops.proofs.pointers.moved_instruments.Given as goal

abbrev pub invariant-loop-instrument : goal.invariant-loop-instrument
invariant-loop-instrument l = l.list.items ≡ map (moved_instrument l.name (shifted l.shift))
    (take l.instrument-index l.stored)
