use Rattle.std.proofs.Common.{◌≡◌, List, ℕ, ap, ◌∙◌, rules}
use Rattle.psid.specs.Format.{psid_bytes}
use Rattle.psid.specs.Reading.{psid_read}
use Rattle.psid.proofs.Written.{written_is_read}
use Rattle.psid.proofs.writing.write.Goals as goal

pub returns-clause-read_back : goal.returns-clause-read_back
returns-clause-read_back c =
    let written : c.extend_from_slice-3.new.self.items ≡ psid_bytes c.args.header.now c.args.load c.args.image.now =
    search rules in
    ap (λ (bytes : List ℕ). psid_read bytes) written
    ∙ written_is_read c.args.header.now c.args.load c.args.image.now c.header_bytes.ensures.ranges (search rules)
    c.requires
