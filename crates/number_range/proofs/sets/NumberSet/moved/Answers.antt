use Rattle.std.proofs.Common.{◌<◌, ◌^◌, rules}
use Rattle.number_range.proofs.Bits.{round_bit}
use Rattle.number_range.proofs.sets.NumberSet.moved.Goals as goal

pub returns : goal.returns
returns c =
    let fits : c.args.self.bits < 2 ^ 128 = search rules in
    record {
      each = λ k.
          rw (c.rotate_left.ensures, c.from.ensures) (
            λ h.
                (let r = (round_bit c.args.self.bits c.args.by k c.requires fits).0 h in
                record { from = r.from; has = r.set; is = r.is }),
            λ m.
                (round_bit c.args.self.bits c.args.by k c.requires fits).1
                (record { from = m.from; set = m.has; is = m.is }),
          );
    }
