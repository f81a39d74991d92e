use Rattle.std.proofs.Common.{◌≡◌, ◌∙◌}
use Rattle.table_pack.proofs.ClosedRows.{entry_some}
use Rattle.table_pack.proofs.closed.look_at_entry.Goals as goal

pub returns-then-entries-p : goal.returns-then-entries-p
returns-then-entries-p c = λ table are entries.
    let is : table.entries c.args.p ≡ _ = entries c.args.p ∙ c.if-entries-p.true in
    entry_some table c.args.p c.args.closed.now c.enter.new.closed is
    (c.enter.ensures table are (are.whole.entry c.args.p is))
