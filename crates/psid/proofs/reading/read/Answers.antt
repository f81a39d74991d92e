use Rattle.std.proofs.Common.{◌≡◌, Ok, rules}
use Rattle.psid.specs.Reading.{psid_read}
use Rattle.psid.specs.declared.header.Psid.{Psid}
use Rattle.psid.proofs.Taken.{read_is_writable}
use Rattle.psid.proofs.reading.read.Goals as goal

pub returns-clause-writable : goal.returns-clause-writable
unfolding psid_read
returns-clause-writable c =
    let psid : Psid =
    record { header = c.header_of-header.result; load = c.load_of-load.result; image = c.in_ok-image.image } in
    let found : psid_read c.args.bytes.now ≡ Ok psid = search rules in
    read_is_writable c.args.bytes.now psid found
