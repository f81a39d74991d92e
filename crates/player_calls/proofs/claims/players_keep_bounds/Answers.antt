-- In at most so many cycles.
use Rattle.player_calls.proofs.claims.players_keep_bounds.Goals as goal
use Rattle.player_calls.proofs.Quick.{players_keep_bounds}

pub returns : goal.returns
returns c = players_keep_bounds
