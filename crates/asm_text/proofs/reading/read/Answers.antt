use Rattle.std.proofs.Common.{◌≡◌, sym, subst}
use Rattle.std.proofs.lemmas.Result.{err_from_is_err_and}
use Rattle.asm_text.specs.Searching.{AreRight}
use Rattle.asm_text.proofs.TextLaws.{say_right}
use Rattle.asm_text.proofs.Ways.{answered, answered_bad}
use Rattle.asm_text.proofs.reading.read.Goals as goal

pub assembled-requires-clause-right : goal.assembled-requires-clause-right
assembled-requires-clause-right c = subst AreRight (sym c.as_slice.ensures) (say_right c.in_ok-origin.ensures.found.say)

pub returns : goal.returns
returns c =
    let answer = answered c.args.text.now c.in_ok-origin.field-0.origin c.in_ok-origin.field-0.script
    c.as_slice.result.now c.assembled.result c.in_ok-origin.ensures.found c.as_slice.ensures
    c.assembled.ensures.sound c.assembled.ensures.done c.assembled.ensures.fault in
    record { found = answer.found; fault = answer.fault; only = answer.only; exact = answer.exact }

pub returns-in_err-origin : goal.returns-in_err-origin
returns-in_err-origin c =
    let p = err_from_is_err_and c.from_residual.result c.from_residual.ensures.1 in
    let same : p.0 ≡ c.in_err-origin.field-0.0 = cc in
    let answer = answered_bad c.args.text.now c.in_err-origin.field-0.0 p.0 same c.in_err-origin.ensures.fault in
    rw p.1 (record { found = answer.found; fault = answer.fault; only = answer.only; exact = answer.exact })
