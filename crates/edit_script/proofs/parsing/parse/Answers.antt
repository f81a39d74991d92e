use Rattle.std.proofs.Common.{◌≡◌, sym, arith}
use Rattle.std.proofs.lemmas.Bool.{eqb-true}
use Rattle.std.proofs.lemmas.Result.{err_from_is_err_and}
use Rattle.edit_script.proofs.TextLaws.{nothing_read, one_more, all_read, fault_found, fault_is, fault_only}
use Rattle.edit_script.proofs.TextLaws.{fault_exact, script_only, script_exact}
use Rattle.edit_script.proofs.parsing.parse.Goals as goal

pub loop-left-init : goal.loop-left-init
loop-left-init c = record {
  read = rw c.new-script.ensures (nothing_read c.args.text.now);
  few = omega arith;
}

pub loop-left-preserved : goal.loop-left-preserved
loop-left-preserved c = record {
  read =
      one_more c.args.text.now c.loop-left.left.now c.split_line.result.1.now c.split_line.result.0.now
      c.loop-left.number c.loop-left.script c.add_line.new.script c.split_line.ensures.lines c.loop-left.invariant.read
      c.in_ok-add_line.ensures.added;
  few = omega (arith, c.split_line.ensures.shorter, c.loop-left.invariant.few);
}

pub returns-in_err-add_line-clause-only : goal.returns-in_err-add_line-clause-only
returns-in_err-add_line-clause-only c =
    let p = err_from_is_err_and c.from_residual.result c.from_residual.ensures.1 in
    let same : p.0 ≡ c.in_err-add_line.field-0.0 = cc in
    let fault =
    fault_found c.args.text.now c.loop-left.left.now c.split_line.result.1.now c.split_line.result.0.now
    c.loop-left.number c.loop-left.script c.in_err-add_line.field-0.0 p.0 c.split_line.ensures.lines
    c.loop-left.invariant.read same c.in_err-add_line.ensures.bad_line in
    rw p.1 (fault_only c.args.text.now p.0 fault)

pub returns-in_err-add_line-clause-bad_line : goal.returns-in_err-add_line-clause-bad_line
returns-in_err-add_line-clause-bad_line c =
    let p = err_from_is_err_and c.from_residual.result c.from_residual.ensures.1 in
    let same : p.0 ≡ c.in_err-add_line.field-0.0 = cc in
    let fault =
    fault_found c.args.text.now c.loop-left.left.now c.split_line.result.1.now c.split_line.result.0.now
    c.loop-left.number c.loop-left.script c.in_err-add_line.field-0.0 p.0 c.split_line.ensures.lines
    c.loop-left.invariant.read same c.in_err-add_line.ensures.bad_line in
    rw p.1 (fault_is c.args.text.now p.0 fault)

pub returns-in_err-add_line-clause-exact : goal.returns-in_err-add_line-clause-exact
returns-in_err-add_line-clause-exact c =
    let p = err_from_is_err_and c.from_residual.result c.from_residual.ensures.1 in
    let same : p.0 ≡ c.in_err-add_line.field-0.0 = cc in
    let fault =
    fault_found c.args.text.now c.loop-left.left.now c.split_line.result.1.now c.split_line.result.0.now
    c.loop-left.number c.loop-left.script c.in_err-add_line.field-0.0 p.0 c.split_line.ensures.lines
    c.loop-left.invariant.read same c.in_err-add_line.ensures.bad_line in
    rw p.1 (fault_exact c.args.text.now p.0 fault)

pub returns-clause-found : goal.returns-clause-found
returns-clause-found c =
    all_read c.args.text.now c.loop-left.left.now c.loop-left.number c.loop-left.script c.loop-left.invariant.read
    (eqb-true _ 0 (sym c.loop-left-test.ensures))

pub returns-clause-only : goal.returns-clause-only
returns-clause-only c = λ commands is.
    script_only c.args.text.now c.loop-left.script commands
    (all_read c.args.text.now c.loop-left.left.now c.loop-left.number c.loop-left.script c.loop-left.invariant.read
    (eqb-true _ 0 (sym c.loop-left-test.ensures))) is

pub returns-clause-exact : goal.returns-clause-exact
returns-clause-exact c = λ line first.
    script_exact c.args.text.now c.loop-left.script line
    (all_read c.args.text.now c.loop-left.left.now c.loop-left.number c.loop-left.script c.loop-left.invariant.read
    (eqb-true _ 0 (sym c.loop-left-test.ensures))) first
