use Rattle.usage.proofs.FeatureMarks.{iff_then}
use Rattle.usage.proofs.FactMarks.{such_marks, common_range}
use Rattle.usage.proofs.found.Found.has_common_tempo.Goals as goal

pub returns : goal.returns
returns c = iff_then c.has_mark.ensures (such_marks c.args.song.now c.args.self.now.rows.commands 15 _ _ _
    c.requires.rows.commands common_range)
