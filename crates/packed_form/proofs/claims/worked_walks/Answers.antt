use Rattle.packed_form.proofs.WorkedWalks.{patterns_alone, transposes_are_passed, repeats_are_passed, runs_are_passed}
use Rattle.packed_form.proofs.WorkedWalks.{subtunes_are_compared, ends_are_counted}
use Rattle.packed_form.proofs.claims.worked_walks.Goals as goal

pub returns-clause-patterns : goal.returns-clause-patterns
returns-clause-patterns c = patterns_alone

pub returns-clause-transposes : goal.returns-clause-transposes
returns-clause-transposes c = transposes_are_passed

pub returns-clause-repeats : goal.returns-clause-repeats
returns-clause-repeats c = repeats_are_passed

pub returns-clause-runs : goal.returns-clause-runs
returns-clause-runs c = runs_are_passed

pub returns-clause-subtunes : goal.returns-clause-subtunes
returns-clause-subtunes c = subtunes_are_compared

pub returns-clause-ends : goal.returns-clause-ends
returns-clause-ends c = ends_are_counted
