use Rattle.std.proofs.Common.{ℕ, ◌<◌, slice_index_or}
use Rattle.usage.specs.Search.{IsStoredByte}
use Rattle.usage.proofs.orders.first_missing.Given as goal

abbrev pub invariant-loop-i : goal.invariant-loop-i
invariant-loop-i l = (k d : ℕ) → k < l.i → IsStoredByte l.patterns (slice_index_or l.entries k d)
