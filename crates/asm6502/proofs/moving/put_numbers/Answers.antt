use Rattle.std.proofs.Common.{length, refl}
use Rattle.asm6502.proofs.Numbers.{fix_within, le_along}
use Rattle.asm6502.proofs.moving.put_numbers.Goals as goal

pub put_number-requires : goal.put_number-requires
put_number-requires c =
    le_along _ (length c.args.bytes.now) (length c.loop-fix.bytes)
    (fix_within 0 (length c.args.bytes.now) c.args.fixes.now c.loop-fix.fix-index _ _ c.requires
    c.loop-fix-test.true refl) c.loop-fix.invariant.0
