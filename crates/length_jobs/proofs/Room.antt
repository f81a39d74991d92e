-- How long the pieces of lines are, as one rule set.
use Rattle.command_line.proofs.Laws.{byte_fits, seven_digits}

pub ruleset pieces_fit = (byte_fits, seven_digits)
