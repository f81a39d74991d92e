use Rattle.usage.specs.Building.{Adds, SomeBelow}
use Rattle.usage.proofs.HeardChannels.{IsHeardAt}
use Rattle.usage.proofs.channels.heard_patterns.Given as goal

abbrev pub invariant-loop-n : goal.invariant-loop-n
invariant-loop-n l = Adds (SomeBelow (IsHeardAt l.song) l.n) l.initial.marks l.marks
