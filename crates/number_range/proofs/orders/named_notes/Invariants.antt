use Rattle.std.proofs.Common.{take, Any}
use Rattle.number_range.specs.Sets.{IsSetOf}
use Rattle.number_range.specs.Notes.{NamesNote}
use Rattle.number_range.proofs.orders.named_notes.Given as goal

abbrev pub invariant-loop-byte : goal.invariant-loop-byte
invariant-loop-byte l = IsSetOf (λ n. Any (λ byte. NamesNote l.song byte n) (take l.byte-index l.entries)) l.named
