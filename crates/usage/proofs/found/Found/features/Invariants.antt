use Rattle.usage.proofs.SetBits.{AreBitsBelow}
use Rattle.usage.proofs.found.Found.features.Given as goal

abbrev pub invariant-loop-feature : goal.invariant-loop-feature
invariant-loop-feature l = AreBitsBelow l.song l.feature-index l.bits
