use Rattle.std.proofs.Common.{take}
use Rattle.usage.specs.Building.{Adds}
use Rattle.usage.specs.Played.{PlaysByte}
use Rattle.usage.specs.Building.{SomeOf}
use Rattle.usage.proofs.played.played_bytes.Given as goal

abbrev pub invariant-loop-subtune : goal.invariant-loop-subtune
invariant-loop-subtune l = Adds (SomeOf PlaysByte (take l.subtune-index l.stored)) l.initial.bytes l.bytes
