-- A line more is lowered.
use Rattle.std.proofs.Common.{◌∙◌, true, false, sym, arith}
use Rattle.scopes.specs.Trees.{opened}
use Rattle.scope_lines.specs.Ends.{around_of}
use Rattle.scope_lines.proofs.Readings.{ends_behind}
use Rattle.scope_lines.proofs.Goings.{Goes, scope_goes, choose_goes, simple_goes, is_simple_if, own_most}
use Rattle.scope_lines.proofs.lowered.Lowered.+body.Goals as goal

pub returns-in-End-clause-behind : goal.returns-in-End-clause-behind
returns-in-End-clause-behind t c =
    ends_behind _ _ _ _ c.in-Some.ensures.cases.0 c.in-End.is c.loop-line.invariant.is_open c.loop-line.invariant.behind

pub loop-line-preserved-in-Scope : goal.loop-line-preserved-in-Scope
loop-line-preserved-in-Scope t c =
    let inv = c.loop-line.invariant in
    let before : Goes (around_of c.args.around c.args.scopes.now c.args.head) c.args.self.now.lines
    c.args.self.now.place (opened c.args.text.now) c.loop-line.self.lines c.loop-line.self.place
    (opened c.loop-line.left.now) =
    record { is_open = inv.is_open; so_far = inv.so_far; sized = inv.sized; behind = inv.behind } in
    let done = c.in_ok-left-in-Scope.ensures in
    let sized = c.measure.ensures.size in
    let short = done.shorter in
    let most = done.most in
    let shorter = inv.shorter in
    let all = inv.most in
    let less = c.in-Some.ensures.cases.1 in
    let on =
    scope_goes c.in_ok-left-in-Scope.left.now before c.in-Some.ensures.cases.0 c.in-Scope.is done.behind
    (omega (arith, sized)) done.lines done.place in
    record {
      is_open = on.is_open;
      so_far = on.so_far;
      sized = on.sized;
      behind = on.behind;
      shorter = omega (arith, short, less, shorter);
      most = omega (arith, most, less, all);
    }

pub loop-line-preserved-in_ok-or-in-Choose : goal.loop-line-preserved-in_ok-or-in-Choose
loop-line-preserved-in_ok-or-in-Choose t c =
    let inv = c.loop-line.invariant in
    let before : Goes (around_of c.args.around c.args.scopes.now c.args.head) c.args.self.now.lines
    c.args.self.now.place (opened c.args.text.now) c.loop-line.self.lines c.loop-line.self.place
    (opened c.loop-line.left.now) =
    record { is_open = inv.is_open; so_far = inv.so_far; sized = inv.sized; behind = inv.behind } in
    let done = c.in_ok-or-in-Choose.ensures in
    let over = c.measure-then-hold-2.ensures in
    let short = done.shorter in
    let shorter_still = over.shorter in
    let most = done.most in
    let shorter = inv.shorter in
    let all = inv.most in
    let less = c.in-Some.ensures.cases.1 in
    let on =
    choose_goes c.in_ok-or-in-Choose.or.now c.measure-then-hold-2.result.1.now before c.in-Some.ensures.cases.0
    c.in-Choose.is done.behind over.behind true
    (sym c.hold-in-Choose.ensures ∙ c.if-hold-2.true) done.lines done.place in
    record {
      is_open = on.is_open;
      so_far = on.so_far;
      sized = on.sized;
      behind = on.behind;
      shorter = omega (arith, short, shorter_still, less, shorter);
      most = omega (arith, most, shorter_still, less, all);
    }

pub loop-line-preserved-in_ok-left-in-Choose : goal.loop-line-preserved-in_ok-left-in-Choose
loop-line-preserved-in_ok-left-in-Choose t c =
    let inv = c.loop-line.invariant in
    let before : Goes (around_of c.args.around c.args.scopes.now c.args.head) c.args.self.now.lines
    c.args.self.now.place (opened c.args.text.now) c.loop-line.self.lines c.loop-line.self.place
    (opened c.loop-line.left.now) =
    record { is_open = inv.is_open; so_far = inv.so_far; sized = inv.sized; behind = inv.behind } in
    let done = c.in_ok-left-in-Choose.ensures in
    let over = c.measure-else-hold-2.ensures in
    let short = done.shorter in
    let shorter_still = over.shorter in
    let most = done.most in
    let shorter = inv.shorter in
    let all = inv.most in
    let less = c.in-Some.ensures.cases.1 in
    let on =
    choose_goes c.measure-else-hold-2.result.1.now c.in_ok-left-in-Choose.left.now before c.in-Some.ensures.cases.0
    c.in-Choose.is over.behind done.behind false
    (sym c.hold-in-Choose.ensures ∙ c.if-hold-2.false) done.lines done.place in
    record {
      is_open = on.is_open;
      so_far = on.so_far;
      sized = on.sized;
      behind = on.behind;
      shorter = omega (arith, short, shorter_still, less, shorter);
      most = omega (arith, most, shorter_still, less, all);
    }

pub loop-line-preserved : goal.loop-line-preserved
loop-line-preserved t c =
    let inv = c.loop-line.invariant in
    let before : Goes (around_of c.args.around c.args.scopes.now c.args.head) c.args.self.now.lines
    c.args.self.now.place (opened c.args.text.now) c.loop-line.self.lines c.loop-line.self.place
    (opened c.loop-line.left.now) =
    record { is_open = inv.is_open; so_far = inv.so_far; sized = inv.sized; behind = inv.behind } in
    let done = c.in_ok-push-in_default-line.ensures in
    let shorter = inv.shorter in
    let all = inv.most in
    let less = c.in-Some.ensures.cases.1 in
    let on = simple_goes before c.in-Some.ensures.cases.0
    (is_simple_if c.in-Some.line.now c.in_default-line.not-Scope c.in_default-line.not-Loop
    c.in_default-line.not-When c.in_default-line.not-Choose c.in_default-line.not-Or c.in_default-line.not-End)
    done.lines done.place in
    record {
      is_open = on.is_open;
      so_far = on.so_far;
      sized = on.sized;
      behind = on.behind;
      shorter = omega (arith, less, shorter);
      most = omega (arith, own_most c.in-Some.line.now, done.place, less, all);
    }
