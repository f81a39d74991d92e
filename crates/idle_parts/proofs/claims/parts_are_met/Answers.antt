-- What the lines in front of parts find.
use Rattle.idle_parts.proofs.claims.parts_are_met.Goals as goal
use Rattle.idle_parts.proofs.Fronts.{fronts_end, stored_is_low, commands_are_found, effects_are_found}
use Rattle.idle_parts.proofs.Fronts.{notes_are_found, lent_are_found, plays_are_found}

pub returns-clause-fronts : goal.returns-clause-fronts
returns-clause-fronts c = λ layout rows voice s desk holds. fronts_end holds

pub returns-clause-stored : goal.returns-clause-stored
returns-clause-stored c = stored_is_low

pub returns-clause-commands : goal.returns-clause-commands
returns-clause-commands c = commands_are_found

pub returns-clause-effects : goal.returns-clause-effects
returns-clause-effects c = effects_are_found

pub returns-clause-notes : goal.returns-clause-notes
returns-clause-notes c = notes_are_found

pub returns-clause-lent : goal.returns-clause-lent
returns-clause-lent c = lent_are_found

pub returns-clause-plays : goal.returns-clause-plays
returns-clause-plays c = plays_are_found
