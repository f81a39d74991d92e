use Rattle.std.proofs.Common.{◌<◌, ◌^◌, inl, inr, rules, arith}
use Rattle.std.specs.Int.{w128, trailing_zeros}
use Rattle.std.proofs.lemmas.Bool.{cases_lt}
use Rattle.std.proofs.lemmas.Nat.Bits.{bit_at-trailing_zeros}
use Rattle.number_range.proofs.Bits.{some_bit}
use Rattle.number_range.proofs.sets.NumberSet.least.Goals as goal

pub returns-clause-has : goal.returns-clause-has
returns-clause-has c =
    let fits : c.args.self.bits < 2 ^ 128 = search rules in
    (bit_at-trailing_zeros w128 c.args.self.bits (some_bit c.args.self.bits c.requires.n c.requires.has) fits).1

pub returns-clause-least : goal.returns-clause-least
returns-clause-least c n has =
    let fits : c.args.self.bits < 2 ^ 128 = search rules in
    let some = some_bit c.args.self.bits c.requires.n c.requires.has in
    let first = bit_at-trailing_zeros w128 c.args.self.bits some fits in
    elim (cases_lt n (trailing_zeros w128 c.args.self.bits)) [
      | inl below ↦ absurd (let none = first.2 n below in omega (arith, none, has))
      | inr from ↦ from
    ]
