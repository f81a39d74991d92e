use Rattle.song_model.specs.LookUp.{zero_row}
use Rattle.song_join.proofs.FirstOpenings.{none_more, opens_here, opens_nowhere}
use Rattle.song_join.proofs.openings.opening.Goals as goal

pub loop-row-preserved : goal.loop-row-preserved
loop-row-preserved c =
    none_more c.args.rows.now c.loop-row.row-index zero_row c.is_opening.result c.loop-row-test.true
    c.loop-row.invariant c.is_opening.ensures c.if-is_opening.false

pub returns-then-is_opening : goal.returns-then-is_opening
returns-then-is_opening c =
    opens_here c.args.rows.now c.loop-row.row-index zero_row c.is_opening.result c.loop-row-test.true
    c.loop-row.invariant c.is_opening.ensures c.if-is_opening.true

pub returns : goal.returns
returns c = opens_nowhere c.args.rows.now c.loop-row.row-index zero_row c.loop-row-test.false c.loop-row.invariant
