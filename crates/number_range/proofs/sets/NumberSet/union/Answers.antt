use Rattle.number_range.proofs.Bits.{either_bit}
use Rattle.number_range.proofs.sets.NumberSet.union.Goals as goal

pub returns : goal.returns
returns c = record { each = λ k. either_bit c.args.self.bits c.args.other.bits k }
