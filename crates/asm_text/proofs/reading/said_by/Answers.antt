use Rattle.std.proofs.Common.{◌≡◌, sym, subst, inr}
use Rattle.std.proofs.lemmas.Result.{err_from_is_err_and}
use Rattle.asm_text.specs.Lines.{parts, IsBadAt, no_line, no_origin}
use Rattle.asm_text.proofs.TextLaws.{text_fault}
use Rattle.asm_text.proofs.reading.said_by.Goals as goal

pub returns-in_default-clause-fault : goal.returns-in_default-clause-fault
returns-in_default-clause-fault c =
    inr (
      c.bad_line.ensures.kind,
      subst (IsBadAt c.args.text.now) (sym c.bad_line.ensures.line) (no_line c.args.text.now c.in_default.ensures.lines),
    )

pub returns-in_default-origin_of-clause-fault : goal.returns-in_default-origin_of-clause-fault
returns-in_default-origin_of-clause-fault c =
    inr (
      c.bad_line-in_default-origin_of.ensures.kind,
      subst (IsBadAt c.args.text.now) (sym c.bad_line-in_default-origin_of.ensures.line)
          (no_origin c.in-Some.first.now (parts c.in-Some.rest.now) c.in-Some.ensures.lines
          c.in_default-origin_of.ensures),
    )

pub returns-in_err-script-clause-fault : goal.returns-in_err-script-clause-fault
returns-in_err-script-clause-fault c =
    let p = err_from_is_err_and c.from_residual.result c.from_residual.ensures.1 in
    let same : p.0 ≡ c.in_err-script.field-0.0 = cc in
    rw p.1
    (text_fault c.args.text.now c.in-Some.first.now c.in-Some.rest.now c.in-Some-origin_of.origin
    c.in_err-script.field-0.0 p.0 c.in-Some.ensures.lines c.in-Some-origin_of.ensures same
    c.in_err-script.ensures.fault)
