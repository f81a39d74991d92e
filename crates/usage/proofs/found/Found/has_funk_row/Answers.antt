use Rattle.usage.proofs.FeatureMarks.{row_marks, funk_range, iff_then}
use Rattle.usage.proofs.found.Found.has_funk_row.Goals as goal

pub returns : goal.returns
returns c = iff_then c.has_mark.ensures (row_marks c.args.song.now c.args.self.now.rows.commands 15 _ _ _
    c.requires.rows.commands funk_range)
