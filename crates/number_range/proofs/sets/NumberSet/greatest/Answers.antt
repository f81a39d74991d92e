use Rattle.std.proofs.Common.{◌<◌, ◌^◌, rules}
use Rattle.number_range.proofs.Bits.{some_bit, top_bit}
use Rattle.number_range.proofs.sets.NumberSet.greatest.Goals as goal

pub returns-clause-has : goal.returns-clause-has
returns-clause-has c =
    let fits : c.args.self.bits < 2 ^ 128 = search rules in
    (top_bit c.args.self.bits (some_bit c.args.self.bits c.requires.n c.requires.has) fits).set

pub returns-clause-greatest : goal.returns-clause-greatest
returns-clause-greatest c =
    let fits : c.args.self.bits < 2 ^ 128 = search rules in
    (top_bit c.args.self.bits (some_bit c.args.self.bits c.requires.n c.requires.has) fits).top
