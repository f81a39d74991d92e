use Rattle.std.proofs.Common.{arith}
use Rattle.usage.proofs.FeatureMarks.{iff_then}
use Rattle.usage.proofs.FactMarks.{once_rows}
use Rattle.usage.proofs.found.Found.has_once.Goals as goal

pub returns : goal.returns
returns c =
    iff_then c.has_commands.ensures
    (once_rows c.args.song.now c.args.self.now.rows.commands c.requires.rows.commands (omega arith))
