use Rattle.std.proofs.Common.{◌<◌, ◌^◌, rules, arith}
use Rattle.std.proofs.lemmas.Bool.Decides.{nat_tests}
use Rattle.number_range.proofs.Bits.{some_bit, top_bit}
use Rattle.number_range.proofs.sets.NumberSet.has_some.Goals as goal

pub returns : goal.returns
returns c =
    let fits : c.args.self.bits < 2 ^ 128 = search rules in (
      λ some. (let top = top_bit c.args.self.bits (grind (arith, nat_tests, some)) fits in
          record { n = _; has = top.set }),
      λ has. (let some = some_bit c.args.self.bits has.n has.has in grind (arith, nat_tests, some)),
    )
