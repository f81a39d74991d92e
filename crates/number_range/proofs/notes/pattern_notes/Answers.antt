use Rattle.number_range.proofs.NotesOfPatterns.{no_notes, more_notes, all_notes}
use Rattle.number_range.proofs.notes.pattern_notes.Goals as goal

pub loop-n-init : goal.loop-n-init
loop-n-init c = no_notes c.args.song.now c.none-notes.result c.none-notes.ensures

pub loop-n-preserved : goal.loop-n-preserved
loop-n-preserved c =
    more_notes c.args.song.now c.loop-n.n c.loop-n.notes c.index-patterns-n.result c.rows_notes.result
    (rw c.as_slice-patterns.ensures.items at c.loop-n-test.true) c.as_slice-patterns.ensures.limit
    (rw c.as_slice-patterns.ensures.items at c.index-patterns-n.is) c.loop-n.invariant
    (rw c.as_slice.ensures.rows at c.rows_notes.ensures)

pub returns : goal.returns
returns c =
    all_notes c.args.song.now c.loop-n.n c.loop-n.notes (rw c.as_slice-patterns.ensures.items at c.loop-n-test.false)
    c.loop-n.invariant
