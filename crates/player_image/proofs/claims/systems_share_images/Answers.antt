-- Systems share images.
use Rattle.player_image.proofs.claims.systems_share_images.Goals as goal
use Rattle.player_image.proofs.Systems as systems

pub returns-clause-alike : goal.returns-clause-alike
returns-clause-alike c = systems.systems_share_images

pub returns-clause-worked : goal.returns-clause-worked
returns-clause-worked c = systems.timer_codes_are_worked
