use Rattle.player_memory.proofs.claims.beginnings_play.Goals as goal
use Rattle.player_memory.proofs.Starting.{beginnings_play}

pub returns : goal.returns
returns c = beginnings_play
