use Rattle.command_line.proofs.Forms.{none_said}
use Rattle.command_line.proofs.arguments.options_of.Goals as goal

pub returns-in-empty : goal.returns-in-empty
returns-in-empty c = rw c.default.ensures (none_said _ c.in-empty.len_below)
