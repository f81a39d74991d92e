use Rattle.std.proofs.Common.{rules, ◌≡◌, ◌∙◌, ap, arith, decimal}
use Rattle.std.proofs.lemmas.Fmt.{parse-decimal}
use Rattle.command_line.proofs.arguments.decimal_of.Goals as goal
use Rattle.command_line.proofs.arguments.decimal_of.Goals.{else-number-limit-via-then-number-limit+else-eq}
use Rattle.command_line.proofs.arguments.decimal_of.Goals.{else-number-limit-via-else-number-limit}

pub returns-in_default : goal.returns-in_default
returns-in_default c =
    let fits = c.ranges.limit in
    λ number w.
    let ok =
    parse-decimal 64 number c.args.word.now c.parse.result (omega (arith, w.allowed, fits))
    (omega (arith, w.allowed, fits)) w.spelled c.parse.ensures.value.0 in
    absurd (search (rules, ok))

pub returns-else-number-limit : goal.returns-else-number-limit
returns-else-number-limit c = λ number w.
    let fits = c.ranges.limit in
    let ok =
    parse-decimal 64 number c.args.word.now c.parse.result (omega (arith, w.allowed, fits))
    (omega (arith, w.allowed, fits)) w.spelled c.parse.ensures.value.0 in
    let is = c.in-Ok.is in
    let same : c.in-Ok.number ≡ number = cc (is, ok) in
    elim c.else-number-limit.branch [
      | else-number-limit-via-then-number-limit+else-eq b ↦
          let text : b.format.result.now ≡ decimal number = b.format.ensures.text ∙ ap decimal same in
          search (rules, text, w.spelled)
      | else-number-limit-via-else-number-limit b ↦ let over =
          b.if-number-limit.false in omega (arith, over, w.allowed, same)
    ]
