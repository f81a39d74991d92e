use Rattle.std.proofs.Common.{◌≡◌, ℕ, ◌+◌, ◌<◌, get_or, slice_index, length}
use Rattle.sid_run.proofs.memory.sid_registers.Given as goal

abbrev pub invariant-loop-i : goal.invariant-loop-i
invariant-loop-i l =
    (length l.register-items ≡ 25)
    × ((k : ℕ) → k < l.i → get_or l.register-items k 0 ≡ slice_index l.fn.memory (0xD400 + k))
