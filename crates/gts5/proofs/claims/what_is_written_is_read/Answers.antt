use Rattle.gts5.proofs.Canonicals.{canonical_is_spelled, canonical_has_no_fault, canonical_is_short}
use Rattle.gts5.proofs.claims.what_is_written_is_read.Goals as goal

pub returns-clause-spelled : goal.returns-clause-spelled
returns-clause-spelled c = canonical_is_spelled

pub returns-clause-faultless : goal.returns-clause-faultless
returns-clause-faultless c = canonical_has_no_fault

pub returns-clause-short : goal.returns-clause-short
returns-clause-short c = canonical_is_short
