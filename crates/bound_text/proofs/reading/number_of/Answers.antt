-- What isn't read is no number's text.
use Rattle.std.proofs.Common.{rules, ◌≡◌, ◌∙◌, sym, ap, subst, decimal}
use Rattle.std.specs.Str.{IsUtf8}
use Rattle.std.proofs.lemmas.Fmt.{parse-decimal, IsAscii-decimal}
use Rattle.std.proofs.lemmas.Str.{IsUtf8-from_ascii}
use Rattle.bound_text.proofs.reading.number_of.Goals as goal

pub returns-in_default : goal.returns-in_default
returns-in_default c = λ number few is.
    let text = subst IsUtf8 (sym is) (IsUtf8-from_ascii (decimal number) (IsAscii-decimal number few)) in
    absurd (search (rules, text))

pub returns-in_default-parse : goal.returns-in_default-parse
returns-in_default-parse c = λ number few is.
    let spelled : c.in-Ok.word.now ≡ decimal number = search (rules, is) in
    let ok = parse-decimal 64 number c.in-Ok.word.now c.parse.result few few spelled c.parse.ensures.value.0 in
    absurd (search (rules, ok))

pub returns-else-eq : goal.returns-else-eq
returns-else-eq c = λ number few is.
    let spelled : c.in-Ok.word.now ≡ decimal number = search (rules, is) in
    let ok = parse-decimal 64 number c.in-Ok.word.now c.parse.result few few spelled c.parse.ensures.value.0 in
    let read = c.in-Ok-parse.is in
    let same : c.in-Ok-parse.number ≡ number = cc (read, ok) in
    let text : c.format.result.now ≡ decimal number = c.format.ensures.text ∙ ap decimal same in
    search (rules, text, spelled)
