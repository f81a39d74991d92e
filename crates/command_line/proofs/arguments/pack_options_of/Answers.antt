use Rattle.command_line.specs.Words.{untold}
use Rattle.command_line.proofs.arguments.pack_options_of.Goals as goal

pub returns-in_ok-options_of-in_default : goal.returns-in_ok-options_of-in_default
returns-in_ok-options_of-in_default c = untold c.in_ok-options_of-in_default.ensures
