-- Which layouts keep a song's lines.
use Rattle.kept_blocks.proofs.WorkedLayouts.{layouts_are_worked}
use Rattle.kept_blocks.proofs.claims.worked_layouts.Goals as goal

pub returns : goal.returns
returns c = layouts_are_worked
