-- Its code stands.
use Rattle.player_code.proofs.claims.assembled_code_stands.Goals as goal
use Rattle.player_code.proofs.Stands.{assembled_code_stands}

pub returns : goal.returns
returns c = assembled_code_stands
