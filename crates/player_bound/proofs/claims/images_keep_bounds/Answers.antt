use Rattle.player_bound.proofs.Kept.{images_keep_bounds, checked_bounds_are_kept}
use Rattle.player_bound.proofs.Systems.{systems_are_bound_alike}
use Rattle.player_bound.proofs.claims.images_keep_bounds.Goals as goal

pub returns-clause-admitted : goal.returns-clause-admitted
returns-clause-admitted c = images_keep_bounds

pub returns-clause-checked : goal.returns-clause-checked
returns-clause-checked c = checked_bounds_are_kept

pub returns-clause-systems : goal.returns-clause-systems
returns-clause-systems c = systems_are_bound_alike
