-- Labels that kept lines name stand.
use Rattle.narrow_runs.proofs.claims.named_labels_stand.Goals as goal
use Rattle.narrow_runs.proofs.Standing.{named_labels_stand}

pub returns : goal.returns
returns c = named_labels_stand
