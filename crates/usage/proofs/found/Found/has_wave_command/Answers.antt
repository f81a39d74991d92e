use Rattle.usage.proofs.FeatureMarks.{command_marks, iff_then}
use Rattle.usage.proofs.found.Found.has_wave_command.Goals as goal

pub returns : goal.returns
returns c = iff_then c.has_command.ensures (command_marks c.args.song.now c.args.self.now.wave_commands
    c.requires.wave_commands)
