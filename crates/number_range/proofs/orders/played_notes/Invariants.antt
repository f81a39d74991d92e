use Rattle.std.proofs.Common.{take, Any}
use Rattle.number_range.specs.Sets.{IsSetOf}
use Rattle.number_range.specs.Notes.{IsSubtuneNote}
use Rattle.number_range.proofs.orders.played_notes.Given as goal

abbrev pub invariant-loop-subtune : goal.invariant-loop-subtune
invariant-loop-subtune l =
    IsSetOf (λ n. Any (λ subtune. IsSubtuneNote l.song subtune n) (take l.subtune-index l.subtunes)) l.played
