-- Which parts there are, and what leads to them.
use Rattle.idle_parts.proofs.claims.parts_have_places.Goals as goal
use Rattle.idle_parts.proofs.PartList.{parts_are_these}
use Rattle.idle_parts.proofs.PartPlaces.{parts_are_come_to, once_is_come_to, slides_leave}
use Rattle.idle_parts.proofs.FactParts.{rows_leave, rows_end}

pub returns-clause-parts : goal.returns-clause-parts
returns-clause-parts c = parts_are_these

pub returns-clause-leaves : goal.returns-clause-leaves
returns-clause-leaves c = parts_are_come_to

pub returns-clause-once : goal.returns-clause-once
returns-clause-once c = once_is_come_to

pub returns-clause-slides : goal.returns-clause-slides
returns-clause-slides c = slides_leave

pub returns-clause-rows : goal.returns-clause-rows
returns-clause-rows c = λ layout rows voice s desk holds. rows_leave holds

pub returns-clause-rows_end : goal.returns-clause-rows_end
returns-clause-rows_end c = λ layout rows voice s desk holds. rows_end holds
