use Rattle.std.proofs.Common.{◌≡◌, ◌∙◌, ◌+◌, sym, subst, arith}
use Rattle.song_model.specs.declared.tables.TableRow.{TableRow}
use Rattle.packing_rules.specs.Segments.{row_of, is_closed_at}
use Rattle.table_pack.specs.Programs.{Narrows}
use Rattle.table_pack.proofs.ClosedRows.{says, closed_start, closed_more, closed_all}
use Rattle.table_pack.proofs.EqualRows.{rows_there}
use Rattle.table_pack.proofs.closed.closed_segments.Goals as goal

pub loop-index-init : goal.loop-index-init
loop-index-init c = λ table s are entries small. closed_start (is_closed_at table s) s small

pub loop-index-preserved : goal.loop-index-preserved
loop-index-preserved c = λ table s are entries small.
    let e : row_of table (c.loop-index.index + 1) ≡ c.row_at.result =
    sym (rows_there table c.args.rows.now (c.loop-index.index + 1) are.rows_are) ∙ sym c.row_at.ensures in
    closed_more table c.loop-index.index s c.loop-index.closed c.look_at_entry.new.closed c.look_at_jump.new.closed small
    (c.loop-index.invariant table s are entries small) (c.look_at_entry.ensures table are.firsts_are entries)
    (subst
    (λ (r : TableRow). Narrows (says table (c.loop-index.index + 1) r) c.look_at_entry.new.closed
    c.look_at_jump.new.closed) (sym e)
    (c.look_at_jump.ensures table are.firsts_are (are.reached (c.loop-index.index + 1)) e))

pub returns : goal.returns
returns c = λ table s are entries small.
    let low = c.loop-index-test.false in
    let high = c.loop-index.auto.index-end in
    closed_all table c.args.rows.now c.loop-index.index s c.loop-index.closed are.rows_are (omega arith)
    (c.loop-index.invariant table s are entries small)
