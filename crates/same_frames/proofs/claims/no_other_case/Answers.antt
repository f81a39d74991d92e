use Rattle.same_frames.proofs.Uses.{no_other_case_lem}
use Rattle.same_frames.proofs.claims.no_other_case.Goals as goal

pub returns : goal.returns
returns c = no_other_case_lem
