use Rattle.jobs.proofs.Bounded.{told_bounds_are_kept, least_texts_are_admitted, written_bounds_are_admitted}
use Rattle.jobs.proofs.claims.told_bounds_are_kept.Goals as goal

pub returns : goal.returns
returns c = record {
  kept = told_bounds_are_kept;
  least = least_texts_are_admitted;
  written = written_bounds_are_admitted;
}
