use Rattle.std.proofs.Common.{rules, refl}
use Rattle.jobs.specs.Lines.{psid_fault_line}
use Rattle.jobs.specs.Endings as ends
use Rattle.jobs.proofs.psid_stages.psid_of.Goals as goal

pub returns-in-Err-clause-refused : goal.returns-in-Err-clause-refused
returns-in-Err-clause-refused c =
    λ files name found.
    ends.ends (psid_fault_line c.in-Err.fault) (c.args.bytes.now, c.in-Err.fault, found, (search rules), refl)
    c.psid_refusal.ensures
