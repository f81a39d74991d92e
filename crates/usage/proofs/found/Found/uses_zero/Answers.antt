use Rattle.usage.proofs.FeatureMarks.{use_marks, zero_range, iff_then}
use Rattle.usage.proofs.found.Found.uses_zero.Goals as goal

pub returns : goal.returns
returns c =
    iff_then c.has_parameter.ensures
    (use_marks c.args.song.now c.args.self.now.rows.commands c.args.self.now.wave_commands c.args.command _ _ _
    c.requires.command
    c.requires.found.rows.commands c.requires.found.wave_commands zero_range)
