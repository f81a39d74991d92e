-- As they are built they hold the start.
use Rattle.player_calls.proofs.claims.players_hold_the_start.Goals as goal
use Rattle.player_calls.proofs.Loaded.{players_hold_the_start}

pub returns : goal.returns
returns c = players_hold_the_start
