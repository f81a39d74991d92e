use Rattle.jobs.proofs.Passes.{met_passes}
use Rattle.jobs.proofs.claims.stages_pass.Goals as goal

pub returns : goal.returns
returns c = met_passes
