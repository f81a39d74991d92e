use Rattle.number_range.specs.Notes.{TransposesBy}
use Rattle.number_range.proofs.MadeSets.{set_first, set_more, set_all, set_both}
use Rattle.number_range.proofs.orders.transposes.Goals as goal

pub loop-byte-init : goal.loop-byte-init
loop-byte-init c = set_first TransposesBy c.args.entries.now c.none-set.ensures

pub loop-byte-preserved : goal.loop-byte-preserved
loop-byte-preserved c =
    set_more TransposesBy c.args.entries.now c.loop-byte.byte-index _ c.loop-byte-test.true c.loop-byte.invariant
    c.entry_transpose.ensures c.union-set.ensures

pub returns : goal.returns
returns c =
    set_both c.only.ensures
    (set_all TransposesBy c.args.entries.now c.loop-byte.byte-index c.loop-byte-test.false c.loop-byte.invariant)
    c.union.ensures
