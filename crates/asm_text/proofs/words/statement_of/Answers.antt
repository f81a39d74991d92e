use Rattle.std.proofs.Common.{◌≡◌, sym, ap, ◌∙◌}
use Rattle.base.proofs.Laws.{same_some}
use Rattle.asm_text.specs.Statements.{spelling, is_right}
use Rattle.asm_text.proofs.SameBytes.{same_bytes, never_same}
use Rattle.asm_text.proofs.WordLaws.{spells_shown, shown_range}
use Rattle.asm_text.proofs.words.statement_of.Goals as goal
use Rattle.asm_text.proofs.words.statement_of.Goals.{else-is_right-via-then-is_right+else-eq, else-is_right-via-else-is_right}

pub returns-in_err-statement : goal.returns-in_err-statement
returns-in_err-statement c =
    rw c.from_residual.ensures
    (λ statement spells. absurd (cc (c.in_err-statement.ensures, spells_shown c.args.line.now statement spells)))

pub returns-then-eq : goal.returns-then-eq
returns-then-eq c = record {
  right = sym c.if-is_right.ensures;
  range = shown_range c.args.line.now c.in_ok-statement.statement (sym c.in_ok-statement.ensures);
  text =
      sym (same_bytes c.as_slice.result.now c.args.line.now (sym c.if-eq.ensures)) ∙ c.as_slice.ensures
      ∙ c.spelling.ensures;
}

pub returns-else-is_right : goal.returns-else-is_right
returns-else-is_right c = λ statement spells.
    let same : c.in_ok-statement.statement ≡ statement =
    same_some c.in_ok-statement.statement statement
    (c.in_ok-statement.ensures ∙ spells_shown c.args.line.now statement spells) in
    elim c.else-is_right.branch [
      | else-is_right-via-then-is_right+else-eq w ↦
          never_same w.as_slice.result.now c.args.line.now (sym w.if-eq.ensures)
          (spells.text ∙ ap spelling (sym same) ∙ sym w.spelling.ensures ∙ sym w.as_slice.ensures)
      | else-is_right-via-else-is_right w ↦ absurd (cc (w.if-is_right.ensures, ap is_right same, spells.right))
    ]
