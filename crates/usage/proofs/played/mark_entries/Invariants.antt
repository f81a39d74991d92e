use Rattle.std.proofs.Common.{◌≡◌, take}
use Rattle.usage.specs.Building.{Adds}
use Rattle.usage.specs.Building.{SomeOf}
use Rattle.usage.proofs.played.mark_entries.Given as goal

abbrev pub invariant-loop-byte : goal.invariant-loop-byte
invariant-loop-byte l = Adds (SomeOf (λ x n. n ≡ x) (take l.byte-index l.entries)) l.initial.bytes l.bytes
