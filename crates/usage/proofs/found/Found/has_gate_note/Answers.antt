use Rattle.usage.proofs.FeatureMarks.{iff_then}
use Rattle.usage.proofs.FactMarks.{gate_note_marks}
use Rattle.usage.proofs.found.Found.has_gate_note.Goals as goal

pub returns : goal.returns
returns c =
    iff_then c.has_mark.ensures (gate_note_marks c.args.song.now c.args.self.now.rows.notes c.requires.rows.notes)
