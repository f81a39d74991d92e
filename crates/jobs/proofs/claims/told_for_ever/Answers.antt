use Rattle.jobs.proofs.PackedMeasured.{told_for_ever_is_asked, told_for_ever_says}
use Rattle.jobs.proofs.claims.told_for_ever.Goals as goal

pub returns-clause-asked : goal.returns-clause-asked
returns-clause-asked c = told_for_ever_is_asked

pub returns-clause-says : goal.returns-clause-says
returns-clause-says c = told_for_ever_says
