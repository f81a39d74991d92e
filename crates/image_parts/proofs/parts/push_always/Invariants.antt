-- So many bytes have been appended.
use Rattle.std.proofs.Common.{◌≡◌, ◌++◌, replicate}
use Rattle.image_parts.specs.CodeParts.{always}
use Rattle.image_parts.proofs.parts.push_always.Given as goal

abbrev pub invariant-loop : goal.invariant-loop
invariant-loop l = record { so_far : l.list ≡ l.initial.list ++ replicate l.counter always }
