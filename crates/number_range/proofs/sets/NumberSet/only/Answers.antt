use Rattle.number_range.proofs.Bits.{only_bit}
use Rattle.number_range.proofs.sets.NumberSet.only.Goals as goal

pub returns : goal.returns
returns c = record { each = λ k. rw c.from.ensures (only_bit c.args.n k c.requires) }
