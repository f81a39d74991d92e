use Rattle.std.proofs.Common.{refl}
use Rattle.std.proofs.lemmas.Result.{err_from_is_err_and}
use Rattle.jobs.proofs.Ends.{wants_first}
use Rattle.jobs.proofs.Chains.{psid_begun, psid_held, hold_fails, met_next, refused, calls_over}
use Rattle.jobs.proofs.run.run_psid.Goals as goal

pub returns-in_err-psid : goal.returns-in_err-psid
returns-in_err-psid g c =
    let p = err_from_is_err_and c.from_residual.result c.from_residual.ensures.1 in
    rw (p.1, p.2) (hold_fails _ refl refl c.in_err-psid.ensures.refused)

pub returns-in_err-number : goal.returns-in_err-number
returns-in_err-number g c =
    let read = c.in_ok-psid.ensures.read in
    let p = err_from_is_err_and c.from_residual-in_err-number.result c.from_residual-in_err-number.ensures.1 in
    let refuses = c.in_err-number.ensures.refused read.was.files c.args.input.now (psid_held read) in
    rw (p.1, p.2) (refused _ (psid_begun refl read) refl refuses)

pub returns-in_default : goal.returns-in_default
returns-in_default g c = wants_first _ c.in_ok-psid.ensures.read.was.stays

pub returns : goal.returns
returns g c =
    let read = c.in_ok-psid.ensures.read in
    let holds = psid_held read in
    let calls = rw (c.in-Ok.ensures, c.in_ok-number.ensures.number) at c.show_calls.ensures in
    let at = met_next (psid_begun refl read) (c.in_ok-psid.psid, holds, c.in_ok-number.ensures.has) in
    calls_over holds at calls
