-- Entrances that are worked by hand.
use Rattle.std.proofs.Common.{refl}
use Rattle.scope_calls.proofs.claims.worked_entrances.Goals as goal
use Rattle.scope_calls.proofs.WorkedEntrances.{volume_is_called, numbers_matter, voices_are_called}

pub returns-clause-volume : goal.returns-clause-volume
returns-clause-volume c = volume_is_called

pub returns-clause-voices : goal.returns-clause-voices
returns-clause-voices c = voices_are_called

pub returns-clause-calls : goal.returns-clause-calls
returns-clause-calls c = refl

pub returns-clause-around : goal.returns-clause-around
returns-clause-around c = refl

pub returns-clause-numbers : goal.returns-clause-numbers
returns-clause-numbers c = numbers_matter

pub returns-clause-a : goal.returns-clause-a
returns-clause-a c = refl

pub returns-clause-x : goal.returns-clause-x
returns-clause-x c = refl

pub returns-clause-y : goal.returns-clause-y
returns-clause-y c = refl

pub returns-clause-labels : goal.returns-clause-labels
returns-clause-labels c = record { no_other = refl; label = refl; first = refl; voice = refl }

pub returns-clause-first : goal.returns-clause-first
returns-clause-first c = λ layout desk. refl

pub returns-clause-each : goal.returns-clause-each
returns-clause-each c = λ layout desk. refl
