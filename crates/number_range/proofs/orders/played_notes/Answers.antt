use Rattle.number_range.specs.Notes.{IsSubtuneNote}
use Rattle.number_range.proofs.MadeSets.{set_first, set_item, set_all}
use Rattle.number_range.proofs.OrderNotes.{played_notes_are}
use Rattle.number_range.proofs.orders.played_notes.Goals as goal

pub loop-subtune-init : goal.loop-subtune-init
loop-subtune-init c = set_first (IsSubtuneNote c.args.song.now) c.as_slice-subtunes.result.now c.none-played.ensures

pub loop-subtune-preserved : goal.loop-subtune-preserved
loop-subtune-preserved c =
    set_item (IsSubtuneNote c.args.song.now) c.as_slice-subtunes.result.now c.loop-subtune.subtune-index
    c.subtune-item.result c.loop-subtune-test.true c.subtune-item.is c.loop-subtune.invariant
    c.subtune_notes.ensures c.union-played.ensures

pub returns : goal.returns
returns c =
    played_notes_are c.args.song.now
    (rw c.as_slice-subtunes.ensures.items at
    (set_all (IsSubtuneNote c.args.song.now) c.as_slice-subtunes.result.now c.loop-subtune.subtune-index
    c.loop-subtune-test.false c.loop-subtune.invariant))
