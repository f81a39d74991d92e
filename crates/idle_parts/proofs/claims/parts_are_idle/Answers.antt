-- Where parts do nothing.
use Rattle.idle_parts.proofs.claims.parts_are_idle.Goals as goal
use Rattle.idle_parts.proofs.StepParts.{tempos_idle, commands_idle, programs_idle}
use Rattle.idle_parts.proofs.LaterParts.{effects_idle, fetches_idle, filters_idle}
use Rattle.idle_parts.proofs.FactParts.{facts_idle}

pub returns-clause-tempos : goal.returns-clause-tempos
returns-clause-tempos c = tempos_idle

pub returns-clause-commands : goal.returns-clause-commands
returns-clause-commands c = commands_idle

pub returns-clause-programs : goal.returns-clause-programs
returns-clause-programs c = programs_idle

pub returns-clause-effects : goal.returns-clause-effects
returns-clause-effects c = λ layout rows voice s desk holds. effects_idle holds

pub returns-clause-fetches : goal.returns-clause-fetches
returns-clause-fetches c = λ layout rows voice s desk holds. fetches_idle holds

pub returns-clause-facts : goal.returns-clause-facts
returns-clause-facts c = λ layout rows voice s desk holds. facts_idle holds

pub returns-clause-filters : goal.returns-clause-filters
returns-clause-filters c = filters_idle
