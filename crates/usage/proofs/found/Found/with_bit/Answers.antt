use Rattle.usage.proofs.SetBits.{small_bits, added_bit, bit_small}
use Rattle.usage.proofs.found.Found.with_bit.Goals as goal

pub returns-then-has-clause-small : goal.returns-then-has-clause-small
returns-then-has-clause-small c = small_bits c.args.bits c.bit.result c.requires.small
    (rw c.bit.ensures (bit_small c.args.feature))

pub returns-then-has-clause-added : goal.returns-then-has-clause-added
returns-then-has-clause-added c = added_bit c.args.song.now c.args.feature c.args.bits c.bit.result c.bit.ensures
    (c.has.ensures.0 c.if-has.true)
