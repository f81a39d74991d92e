use Rattle.usage.proofs.FeatureMarks.{row_marks, any_range, iff_then}
use Rattle.usage.proofs.found.Found.has_row.Goals as goal

pub returns : goal.returns
returns c =
    iff_then c.has_mark.ensures (row_marks c.args.song.now c.args.self.now.rows.commands c.args.command _ _ _
    c.requires.found.rows.commands any_range)
