-- Images are players, and play.
use Rattle.player_image.proofs.claims.images_play.Goals as goal
use Rattle.player_image.proofs.Whole.{images_are_players}
use Rattle.player_image.proofs.Whole.{images_play}

pub returns-clause-players : goal.returns-clause-players
returns-clause-players c = images_are_players

pub returns-clause-play : goal.returns-clause-play
returns-clause-play c = images_play
