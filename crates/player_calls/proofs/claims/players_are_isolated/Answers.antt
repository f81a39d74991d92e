-- By the image's bytes alone.
use Rattle.player_calls.proofs.claims.players_are_isolated.Goals as goal
use Rattle.player_calls.proofs.Isolated.{players_are_isolated}

pub returns : goal.returns
returns c = players_are_isolated
