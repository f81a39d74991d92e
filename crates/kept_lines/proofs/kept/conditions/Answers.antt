-- A condition that holds is in the set behind its turn, and one that doesn't is not.
use Rattle.std.proofs.Common.{◌≡◌, ◌<◌, ℕ, ◌+◌, ◌*◌, ◌%◌, ◌^◌, sym, ◌∙◌, subst, ap, arith}
use Rattle.play_model.specs.declared.options.Options.{Options}
use Rattle.kept_lines.specs.KeptLines.{keeps, kept_set}
use Rattle.kept_lines.proofs.Sums.{bits_below, bits_few, bits_with, bits_without, fits}
use Rattle.kept_lines.proofs.kept.conditions.Goals.{then-keeps, else-keeps}
use Rattle.kept_lines.proofs.kept.conditions.Goals as goal

pub loop-condition-preserved : goal.loop-condition-preserved
loop-condition-preserved c = record {
  set = now;
  most = subst (λ (set : ℕ). set < 2 ^ (condition + 1)) (sym now) (bits_few (keeps asked options) (condition + 1));
}
  where
    condition : ℕ
    condition = c.loop-condition.condition

    asked : ℕ
    asked = c.args.asked.0

    options : Options
    options = c.args.options

    now : c.if-keeps.set ≡ bits_below (keeps asked options) (condition + 1)
    now = elim c.if-keeps.branch [
      | then-keeps w ↦
          w.set-is ∙ ap (λ bit. c.loop-condition.set + 1 * 2 ^ bit % 2 ^ 128) w.from.ensures
          ∙ ap (λ power. c.loop-condition.set + power) (fits condition c.loop-condition-test.true)
          ∙ bits_with (keeps asked options) _ condition c.loop-condition.invariant.set (sym w.if-keeps.ensures)
      | else-keeps w ↦
          w.set-is
          ∙ bits_without (keeps asked options) _ condition c.loop-condition.invariant.set (sym w.if-keeps.ensures)
    ]

-- all have been looked at
pub returns : goal.returns
unfolding kept_set
returns c =
    let from = c.loop-condition-test.false in
    let to = c.loop-condition.auto.condition-end in
    let all : c.loop-condition.condition ≡ 61 = omega (arith, from, to) in
    c.loop-condition.invariant.set ∙ ap (bits_below (keeps c.args.asked.0 c.args.options)) all
