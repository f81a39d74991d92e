use Rattle.std.proofs.Common.{◌≡◌, ◌+◌, ◌≤◌, drop}
use Rattle.asm6502.specs.Lines.{data_size}
use Rattle.asm6502.specs.declared.lines.TheConstants.{MOST_BYTES}
use Rattle.asm6502.proofs.lines.Listing.is_within_limits.Given as goal

abbrev pub invariant-loop-line : goal.invariant-loop-line
invariant-loop-line l =
    (l.room ≤ MOST_BYTES) × (data_size l.line-items + l.room ≡ data_size (drop l.line-index l.line-items)
    + MOST_BYTES)
