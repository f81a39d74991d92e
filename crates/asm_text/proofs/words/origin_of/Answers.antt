use Rattle.std.proofs.Common.{sym, ap, ◌∙◌}
use Rattle.asm_text.specs.Statements.{origin_text}
use Rattle.asm_text.proofs.SameBytes.{never_same}
use Rattle.asm_text.proofs.WordLaws.{origin_again}
use Rattle.asm_text.proofs.words.origin_of.Goals as goal

pub returns-else-eq : goal.returns-else-eq
returns-else-eq c = λ origin is.
    let same = origin_again origin c.args.line.now is in
    never_same c.as_slice.result.now c.args.line.now (sym c.if-eq.ensures)
    (is.text ∙ ap origin_text (sym same) ∙ ap origin_text (sym c.word_value-origin.ensures)
    ∙ sym c.origin_text.ensures ∙ sym c.as_slice.ensures)
