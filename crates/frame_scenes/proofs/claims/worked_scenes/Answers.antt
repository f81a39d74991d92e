-- What is no scene.
use Rattle.frame_scenes.proofs.claims.worked_scenes.Goals as goal
use Rattle.frame_scenes.proofs.WorkedScenes.{pattern_limits_are_worked, none_are_scenes}

pub returns-clause-limits : goal.returns-clause-limits
returns-clause-limits c = pattern_limits_are_worked

pub returns-clause-refused : goal.returns-clause-refused
returns-clause-refused c = none_are_scenes
