use Rattle.std.proofs.Common.{arith}
use Rattle.edit_ops.proofs.PatternLaws.{row_in_range, insert_stays}
use Rattle.edit_ops.proofs.patterns.insert_row.Goals as goal

pub put_pattern-requires-clause-limits : goal.put_pattern-requires-clause-limits
put_pattern-requires-clause-limits c =
    rw (c.in_ok-rows.ensures, c.from.ensures)
    (insert_stays c.args.song.now c.args.pattern c.args.place c.args.row c.rows_at.result.now c.rows_at.ensures.rows
    c.rows_at.ensures.limits (row_in_range c.args.row (omega arith) c.requires.value) c.requires.place c.requires.limit)
