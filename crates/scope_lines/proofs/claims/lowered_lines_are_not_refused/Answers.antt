-- Lowered lines are at home, and not refused.
use Rattle.scope_lines.proofs.Homes.{lowered_lines_are_at_home, lowered_lines_are_not_refused}
use Rattle.scope_lines.proofs.claims.lowered_lines_are_not_refused.Goals as goal

pub returns-clause-at_home : goal.returns-clause-at_home
returns-clause-at_home c = lowered_lines_are_at_home

pub returns-clause-not_refused : goal.returns-clause-not_refused
returns-clause-not_refused c = lowered_lines_are_not_refused
