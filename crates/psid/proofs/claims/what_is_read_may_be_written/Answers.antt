use Rattle.psid.proofs.Taken.{read_is_writable}
use Rattle.psid.proofs.claims.what_is_read_may_be_written.Goals as goal

pub returns : goal.returns
returns c = read_is_writable
