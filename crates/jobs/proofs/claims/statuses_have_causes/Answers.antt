use Rattle.jobs.proofs.Due.{done_row, usage_row, other_row}
use Rattle.jobs.proofs.claims.statuses_have_causes.Goals as goal

pub returns : goal.returns
returns c = record { done = done_row; usage = usage_row; others = other_row }
