-- Its entrances are well entered.
use Rattle.player_code.proofs.claims.code_is_well_entered.Goals as goal
use Rattle.player_code.proofs.Whole.{code_is_well_entered}

pub returns : goal.returns
returns c = code_is_well_entered
