use Rattle.usage.proofs.FeatureMarks.{tempo_marks, iff_then}
use Rattle.usage.proofs.found.Found.has_tempo_row.Goals as goal

pub returns : goal.returns
returns c = iff_then c.has_either.ensures (tempo_marks c.args.song.now c.args.self.now.rows.commands
    c.requires.rows.commands)
