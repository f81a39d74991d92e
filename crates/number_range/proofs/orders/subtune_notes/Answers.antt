use Rattle.number_range.proofs.MadeSets.{set_both}
use Rattle.number_range.proofs.OrderNotes.{subtune_notes_are}
use Rattle.number_range.proofs.orders.subtune_notes.Goals as goal

pub returns : goal.returns
returns c =
    subtune_notes_are c.args.song.now c.args.subtune.now (rw c.is_playable.ensures at c.if-not-is_playable.false)
    (set_both (set_both c.order_notes-one.ensures c.order_notes-two.ensures c.union.ensures)
    c.order_notes-three.ensures c.union-2.ensures)
