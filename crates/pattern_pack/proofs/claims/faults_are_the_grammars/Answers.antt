use Rattle.pattern_pack.proofs.FirstFaults.{bad_bytes_are_first, ends_are_missing, lengths_are_bad}
use Rattle.pattern_pack.proofs.claims.faults_are_the_grammars.Goals as goal

pub returns-clause-bytes : goal.returns-clause-bytes
returns-clause-bytes c = bad_bytes_are_first

pub returns-clause-ends : goal.returns-clause-ends
returns-clause-ends c = ends_are_missing

pub returns-clause-lengths : goal.returns-clause-lengths
returns-clause-lengths c = lengths_are_bad
