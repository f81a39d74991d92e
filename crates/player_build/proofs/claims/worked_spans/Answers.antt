-- The worked spans, and the lists of an image.
use Rattle.player_build.proofs.WorkedSpans.{spans_are_worked, two_speeds_are_worked}
use Rattle.player_build.proofs.claims.worked_spans.Goals as goal

pub returns-clause-spans : goal.returns-clause-spans
returns-clause-spans c = spans_are_worked

pub returns-clause-lists : goal.returns-clause-lists
returns-clause-lists c = two_speeds_are_worked
