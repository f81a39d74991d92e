-- There is one image.
use Rattle.player_image.proofs.claims.images_are_one.Goals as goal
use Rattle.player_image.proofs.Alone as alone

pub returns : goal.returns
returns c = alone.images_are_one
