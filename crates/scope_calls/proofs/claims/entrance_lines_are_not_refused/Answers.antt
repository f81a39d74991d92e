-- No line of an entrance is refused.
use Rattle.scope_calls.proofs.claims.entrance_lines_are_not_refused.Goals as goal
use Rattle.scope_calls.proofs.Homes.{entrance_lines_are_at_home, entrance_lines_are_not_refused}

pub returns-clause-at_home : goal.returns-clause-at_home
returns-clause-at_home c = entrance_lines_are_at_home

pub returns-clause-not_refused : goal.returns-clause-not_refused
returns-clause-not_refused c = entrance_lines_are_not_refused
