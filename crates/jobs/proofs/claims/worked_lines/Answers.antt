-- The worked lines.
use Rattle.jobs.proofs.WorkedLines.{lines_are_worked, cost_lines_are_worked, faults_are_worked}
use Rattle.jobs.proofs.WorkedLines.{listing_faults_are_worked, join_faults_are_worked, refusals_are_worked}
use Rattle.jobs.proofs.WorkedLines.{statuses_are_worked, limits_are_worked, headers_are_worked, flags_are_worked}
use Rattle.jobs.proofs.WorkedLines.{large_images_are_not_packed}
use Rattle.jobs.proofs.claims.worked_lines.Goals as goal

pub returns : goal.returns
returns c = record {
  lines = lines_are_worked;
  costs = cost_lines_are_worked;
  faults = faults_are_worked;
  listings = listing_faults_are_worked;
  joins = join_faults_are_worked;
  refusals = refusals_are_worked;
  statuses = statuses_are_worked;
  limits = limits_are_worked;
  headers = headers_are_worked;
  flags = flags_are_worked;
  room = large_images_are_not_packed;
}
