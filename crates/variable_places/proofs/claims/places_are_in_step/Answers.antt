use Rattle.variable_places.proofs.Voices.{funk_is_together}
use Rattle.variable_places.proofs.First.{uncleared_are_first, cleared_are_behind}
use Rattle.variable_places.proofs.claims.places_are_in_step.Goals as goal

pub returns-clause-funk : goal.returns-clause-funk
returns-clause-funk c = funk_is_together

pub returns-clause-first : goal.returns-clause-first
returns-clause-first c = uncleared_are_first

pub returns-clause-behind : goal.returns-clause-behind
returns-clause-behind c = cleared_are_behind
