-- Players play.
use Rattle.player_calls.proofs.claims.players_play.Goals as goal
use Rattle.player_calls.proofs.Served.{players_play}

pub returns : goal.returns
returns c = players_play
