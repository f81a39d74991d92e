use Rattle.std.proofs.Common.{Ok, Err}
use Rattle.pattern_pack.proofs.Whole.{bytes_are, spelled_is_unpacked, is_found, is_answer, is_fault, faults}
use Rattle.pattern_pack.proofs.unpacking.unpack_pattern.Goals as goal

pub returns-clause-found : goal.returns-clause-found
returns-clause-found c =
    is_found c.args.bytes.now c.read.result (bytes_are c.args.bytes.now c.type_inv.bytes) c.read.ensures

pub returns-clause-only : goal.returns-clause-only
returns-clause-only c = λ rows spelled.
    is_answer c.args.bytes.now c.read.result (Ok rows) c.read.ensures
    (spelled_is_unpacked c.args.bytes.now rows spelled)

pub returns-clause-fault : goal.returns-clause-fault
returns-clause-fault c = is_fault c.args.bytes.now c.read.result c.read.ensures

pub returns-clause-exact : goal.returns-clause-exact
returns-clause-exact c = λ fault e.
    is_answer c.args.bytes.now c.read.result (Err fault) c.read.ensures (faults c.args.bytes.now fault e)
