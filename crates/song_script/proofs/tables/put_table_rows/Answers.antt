use Rattle.std.proofs.Common.{◌+◌, arith}
use Rattle.song_script.specs.Parts.{table_row_said}
use Rattle.song_script.proofs.PutLaws.{each_more}
use Rattle.song_script.proofs.tables.put_table_rows.Goals as goal

pub loop-place-preserved : goal.loop-place-preserved
loop-place-preserved c =
    each_more 1 (table_row_said c.args.table) c.as_slice-rows.result.now c.loop-place.place (c.loop-place.place + 1) _
    _ _ _ c.loop-place-test.true c.loop-place.invariant c.in_ok-put_table_row.ensures
    (omega arith)
