use Rattle.std.proofs.Common.{refl, arith, ap, length}
use Rattle.asm6502.proofs.Numbers.{moved}
use Rattle.asm6502.proofs.assembled.Assembled.relocate.Goals as goal

pub invariant_of-self-2 : goal.invariant_of-self-2
invariant_of-self-2 c =
    let fits = c.if-from-length.false in
    let from = c.from.ensures in
    let size = ap length c.as_slice.ensures in
    let m = moved c.args.origin c.args.self.now.bytes c.put_numbers.new.bytes c.args.self.now.fixes
    c.as_slice-2.result.now c.args.self.now.in_order c.put_numbers.ensures c.as_slice-2.ensures (omega arith) in
    record { fits = m.fits; in_order = m.in_order; numbers_stand = m.stand }

pub returns-clause-moved : goal.returns-clause-moved
returns-clause-moved c =
    let fits = c.if-from-length.false in
    let from = c.from.ensures in
    let size = ap length c.as_slice.ensures in
    let m = moved c.args.origin c.args.self.now.bytes c.put_numbers.new.bytes c.args.self.now.fixes
    c.as_slice-2.result.now c.args.self.now.in_order c.put_numbers.ensures c.as_slice-2.ensures (omega arith) in
    record { origin_is = refl; fixes_stay = refl; bytes_are = m.bytes; others_stay = m.others; size_stays = m.size }
