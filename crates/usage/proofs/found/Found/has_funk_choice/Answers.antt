use Rattle.usage.proofs.FeatureMarks.{iff_then}
use Rattle.usage.proofs.FactMarks.{choice_rows}
use Rattle.usage.proofs.found.Found.has_funk_choice.Goals as goal

pub returns : goal.returns
returns c = iff_then c.has_row.ensures (choice_rows c.args.song.now)
