use Rattle.usage.proofs.FeatureMarks.{iff_then}
use Rattle.usage.proofs.FactMarks.{slide_rows}
use Rattle.usage.proofs.found.Found.has_slide.Goals as goal

pub returns : goal.returns
returns c = iff_then c.has_commands.ensures (slide_rows c.args.song.now)
