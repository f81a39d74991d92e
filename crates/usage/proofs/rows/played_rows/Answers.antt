use Rattle.usage.proofs.UsedRows.{rows_of}
use Rattle.usage.proofs.rows.played_rows.Goals as goal

pub returns : goal.returns
returns c = rows_of c.args.song.now c.mark_patterns.new.marks c.mark.ensures c.mark_patterns.ensures.instruments
    c.mark_patterns.ensures.commands c.mark_patterns.ensures.notes
