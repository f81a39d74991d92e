use Rattle.std.proofs.Common.{◌≡◌, length, drop}
use Rattle.asm6502.specs.Fixes.{with_numbers}
use Rattle.asm6502.proofs.moving.put_numbers.Given as goal

abbrev pub invariant-loop-fix : goal.invariant-loop-fix
invariant-loop-fix l =
    (length l.bytes ≡ length l.fn.bytes) × (with_numbers l.origin l.bytes (drop l.fix-index l.fixes) ≡ with_numbers
    l.origin l.fn.bytes l.fixes)
