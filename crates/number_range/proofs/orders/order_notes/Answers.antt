use Rattle.number_range.proofs.MadeSets.{sum_of}
use Rattle.number_range.proofs.OrderNotes.{order_notes_are}
use Rattle.number_range.proofs.orders.order_notes.Goals as goal

pub returns : goal.returns
returns c =
    order_notes_are c.args.song.now c.args.order.now
    (sum_of (rw c.as_slice-entries.ensures.bytes at c.named_notes.ensures)
    (rw c.as_slice-entries.ensures.bytes at c.transposes.ensures) c.plus.ensures)
