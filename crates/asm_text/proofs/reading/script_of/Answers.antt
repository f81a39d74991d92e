use Rattle.std.proofs.Common.{◌≡◌, ◌<◌, length, sym, subst, inr, arith}
use Rattle.std.proofs.lemmas.Bool.{eqb-true, eqb-false}
use Rattle.std.proofs.lemmas.Result.{err_from_is_err_and}
use Rattle.asm_text.specs.Lines.{parts, IsFirstBad}
use Rattle.asm_text.proofs.TextLaws.{nothing_read, one_more, all_read, not_ended, line_fault}
use Rattle.asm_text.proofs.reading.script_of.Goals as goal

pub loop-left-init : goal.loop-left-init
loop-left-init c = rw c.new-script.ensures (nothing_read c.args.text.now)

pub loop-left-preserved : goal.loop-left-preserved
loop-left-preserved c =
    one_more c.args.text.now c.loop-left.left.now c.in-Some.rest.now c.in-Some.line.now c.loop-left.number
    c.loop-left.script c.add_line.new.script c.in-Some.ensures.lines c.in-Some.ensures.sizes c.loop-left.invariant
    c.in_ok-add_line.ensures.added

pub loop-left-smaller : goal.loop-left-smaller
loop-left-smaller c =
    let less : length c.in-Some.rest.now < length c.loop-left.left.now = omega (arith, c.in-Some.ensures.sizes) in less

pub returns-in_default-clause-fault : goal.returns-in_default-clause-fault
returns-in_default-clause-fault c =
    inr (
      c.bad_line.ensures.kind,
      subst (IsFirstBad 2 (parts c.args.text.now)) (sym c.bad_line.ensures.line)
          (not_ended c.args.text.now c.loop-left.left.now c.loop-left.number c.loop-left.script c.loop-left.invariant
          (eqb-false _ 0 (sym c.loop-left-test.ensures)) c.in_default.ensures.lines),
    )

pub returns-in_err-add_line-clause-fault : goal.returns-in_err-add_line-clause-fault
returns-in_err-add_line-clause-fault c =
    let p = err_from_is_err_and c.from_residual.result c.from_residual.ensures.1 in
    let same : p.0 ≡ c.in_err-add_line.field-0.0 = cc in
    rw p.1
    (line_fault c.args.text.now c.loop-left.left.now c.in-Some.rest.now c.in-Some.line.now c.loop-left.number
    c.loop-left.script c.in_err-add_line.field-0.0 p.0 c.in-Some.ensures.lines c.loop-left.invariant same
    c.in_err-add_line.ensures.fault)

pub returns-clause-found : goal.returns-clause-found
returns-clause-found c =
    all_read c.args.text.now c.loop-left.left.now c.loop-left.number c.loop-left.script c.loop-left.invariant
    (eqb-true _ 0 (sym c.loop-left-test.ensures))
