use Rattle.number_range.specs.Notes.{HasNote}
use Rattle.number_range.proofs.MadeSets.{set_first, set_more, set_all}
use Rattle.number_range.proofs.notes.rows_notes.Goals as goal

pub loop-row-init : goal.loop-row-init
loop-row-init c = set_first HasNote c.args.rows.now c.none-notes.ensures

pub loop-row-preserved : goal.loop-row-preserved
loop-row-preserved c =
    set_more HasNote c.args.rows.now c.loop-row.row-index _ c.loop-row-test.true c.loop-row.invariant
    c.row_note.ensures c.union-notes.ensures

pub returns : goal.returns
returns c = set_all HasNote c.args.rows.now c.loop-row.row-index c.loop-row-test.false c.loop-row.invariant
