use Rattle.edit_ops.proofs.PatternLaws.{remove_stays}
use Rattle.edit_ops.proofs.patterns.delete_row.Goals as goal

pub put_pattern-requires-clause-limits : goal.put_pattern-requires-clause-limits
put_pattern-requires-clause-limits c =
    rw (c.in_ok-rows.ensures, c.from.ensures)
    (remove_stays c.args.song.now c.args.pattern c.args.place c.rows_at.result.now c.rows_at.ensures.rows
    c.rows_at.ensures.limits c.requires.place c.requires.limit)
