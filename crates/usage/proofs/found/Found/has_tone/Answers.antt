use Rattle.usage.proofs.FeatureMarks.{iff_then}
use Rattle.usage.proofs.FactMarks.{tone_rows}
use Rattle.usage.proofs.found.Found.has_tone.Goals as goal

pub returns : goal.returns
returns c = iff_then c.has_commands.ensures (tone_rows c.args.song.now)
