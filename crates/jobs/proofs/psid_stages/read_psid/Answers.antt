use Rattle.std.proofs.Common.{Some, sym, ap, ◌∙◌}
use Rattle.std.proofs.lemmas.Result.{err_from_is_err_and, IfOk-weaker, IfErr-weaker}
use Rattle.jobs.specs.Endings as ends
use Rattle.jobs.proofs.psid_stages.read_psid.Goals as goal

pub returns-in_err-bytes-clause-refused : goal.returns-in_err-bytes-clause-refused
returns-in_err-bytes-clause-refused g c =
    let p = err_from_is_err_and c.from_residual.result c.from_residual.ensures.1 in
    rw (p.1, p.2) (ends.unread c.in_err-bytes.ensures.refused)

pub returns-clause-read : goal.returns-clause-read
returns-clause-read g c =
    IfOk-weaker c.psid_of.result _ _
    (λ psid reads. record { bytes = _; was = c.in_ok-bytes.ensures.read; reads = rw c.deref.ensures.value at reads })
    c.psid_of.ensures.reads

pub returns-clause-refused : goal.returns-clause-refused
returns-clause-refused g c =
    let was = c.in_ok-bytes.ensures.read in
    let found = was.found ∙ ap Some (sym c.deref.ensures.value) in
    IfErr-weaker c.psid_of.result _ _
    (λ refusal refused. ends.unheld _ was (refused was.files c.args.name.now found)) c.psid_of.ensures.refused
