use Rattle.std.proofs.Common.{refl, sym, inr}
use Rattle.edit_script.proofs.ScriptLaws.{adds_nothing, adds_action, is_no_line}
use Rattle.edit_script.proofs.parsing.add_line.Goals as goal

pub returns-then-says_nothing-clause-added : goal.returns-then-says_nothing-clause-added
returns-then-says_nothing-clause-added c =
    adds_nothing c.args.number c.args.line.now c.args.script.now c.args.script.now
    (c.if-says_nothing.ensures.0 refl) refl

pub returns-in_ok-push-in-Some-clause-added : goal.returns-in_ok-push-in-Some-clause-added
returns-in_ok-push-in-Some-clause-added c =
    adds_action c.args.number c.args.line.now c.args.script.now c.push.new.self c.in-Some.action (sym c.in-Some.ensures)
    c.in_ok-push-in-Some.ensures.ok

pub returns-in-None-clause-bad_line : goal.returns-in-None-clause-bad_line
returns-in-None-clause-bad_line c =
    inr (
      refl,
      is_no_line c.args.line.now (λ says. absurd (cc (c.if-says_nothing.ensures.1 says))) (sym c.in-None.ensures),
    )
