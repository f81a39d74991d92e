use Rattle.jobs.proofs.Bounded.{playable_songs_are_bounded}
use Rattle.jobs.proofs.Fileless.{some_jobs_have_no_stage}
use Rattle.jobs.proofs.Joining.{joinable_songs_are_joined}
use Rattle.jobs.proofs.Listed.{listings_are_assembled}
use Rattle.jobs.proofs.PackedMeasured.{packed_files_are_measured}
use Rattle.jobs.proofs.MetPremises.{statuses_are_ordinary, fitting_songs_are_packed, packed_files_are_run}
use Rattle.jobs.proofs.Shown.{scripts_are_done}
use Rattle.jobs.proofs.claims.premises_are_met.Goals as goal

pub returns-clause-statuses : goal.returns-clause-statuses
returns-clause-statuses c = statuses_are_ordinary

pub returns-clause-packed : goal.returns-clause-packed
returns-clause-packed c = fitting_songs_are_packed

pub returns-clause-run : goal.returns-clause-run
returns-clause-run c = packed_files_are_run

pub returns-clause-measured : goal.returns-clause-measured
returns-clause-measured c = packed_files_are_measured

pub returns-clause-listing : goal.returns-clause-listing
returns-clause-listing c = listings_are_assembled

pub returns-clause-joined : goal.returns-clause-joined
returns-clause-joined c = joinable_songs_are_joined

pub returns-clause-script : goal.returns-clause-script
returns-clause-script c = scripts_are_done

pub returns-clause-fileless : goal.returns-clause-fileless
returns-clause-fileless c = some_jobs_have_no_stage

pub returns-clause-bounded : goal.returns-clause-bounded
returns-clause-bounded c = playable_songs_are_bounded
