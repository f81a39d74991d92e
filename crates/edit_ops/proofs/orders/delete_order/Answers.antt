use Rattle.std.proofs.Common.{ap, arith, length}
use Rattle.edit_ops.proofs.ListLaws.{remove_keeps}
use Rattle.edit_ops.proofs.OrderLaws.{entry_stands}
use Rattle.edit_ops.proofs.orders.delete_order.Goals as goal

pub put_entries-requires-clause-limits : goal.put_entries-requires-clause-limits
put_entries-requires-clause-limits c =
    rw (c.in_ok-entries.ensures, c.from.ensures)
    (remove_keeps _ _ _ c.args.place c.entries_at-stored.ensures.limits
    (omega (
      arith,
      ap length c.entries_at-stored.ensures.entries,
      entry_stands c.args.song.now c.args.subtune c.args.channel c.args.place c.requires,
    )))
