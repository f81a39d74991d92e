use Rattle.psid.proofs.Written.{written_is_read, written_is_read_as_is}
use Rattle.psid.proofs.claims.what_is_written_is_read.Goals as goal

pub returns-clause-with_init : goal.returns-clause-with_init
returns-clause-with_init c = written_is_read

pub returns-clause-as_is : goal.returns-clause-as_is
returns-clause-as_is c = written_is_read_as_is
