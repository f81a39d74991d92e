use Rattle.std.proofs.Common.{refl, inr}
use Rattle.asm_text.specs.Steps.{nothing, something}
use Rattle.asm_text.proofs.TextLaws.{is_no_line}
use Rattle.asm_text.proofs.reading.add_line.Goals as goal

pub returns-then-says_nothing-clause-added : goal.returns-then-says_nothing-clause-added
returns-then-says_nothing-clause-added c = nothing (c.if-says_nothing.ensures.0 refl) refl

pub returns-in_ok-push-in-Some-clause-added : goal.returns-in_ok-push-in-Some-clause-added
returns-in_ok-push-in-Some-clause-added c =
    something c.in-Some.statement c.in-Some.ensures c.in_ok-push-in-Some.ensures.ok

pub returns-in-None-clause-fault : goal.returns-in-None-clause-fault
returns-in-None-clause-fault c =
    inr (
      c.bad_line.ensures.kind,
      c.bad_line.ensures.line,
      is_no_line c.args.line.now (λ says. absurd (cc (c.if-says_nothing.ensures.1 says))) c.in-None.ensures,
    )
