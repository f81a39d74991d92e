-- How long the pieces of lines are, as one rule set.
use Rattle.command_line.proofs.Laws.{digits_fit, wide_fits, byte_fits, hex_fits, address_fits, features_fit, sum_fits}

pub ruleset pieces_fit = (digits_fit, wide_fits, byte_fits, hex_fits, address_fits, features_fit, sum_fits)
