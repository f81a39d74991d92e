use Rattle.jobs.proofs.Bounded.{songs_have_one_program, bounds_have_one_outcome}
use Rattle.jobs.proofs.Charts.{charts_have_one_outcome}
use Rattle.jobs.proofs.Due.{outcome_due, one_due, one_text}
use Rattle.jobs.proofs.claims.runs_have_one_outcome.Goals as goal

pub returns : goal.returns
returns c = record {
  due = λ words files status lines write o. outcome_due o;
  status = λ words files s t a b p q. one_due p q;
  text = λ words files s t lines others other p q. one_text other p q;
  programs = songs_have_one_program;
  bounds = bounds_have_one_outcome;
  charts = charts_have_one_outcome;
}
