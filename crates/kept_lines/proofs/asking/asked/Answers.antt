-- A condition that is asked for is in the set behind its turn, and one that doesn't is not.
use Rattle.std.proofs.Common.{◌≡◌, ◌<◌, ℕ, ◌+◌, ◌*◌, ◌%◌, ◌^◌, sym, ◌∙◌, subst, ap, arith}
use Rattle.song_facts.specs.declared.facts.Facts.{Facts}
use Rattle.kept_lines.specs.Asked.{asks}
use Rattle.kept_lines.proofs.Sums.{bits_below, bits_few, bits_with, bits_without, fits}
use Rattle.kept_lines.proofs.asking.asked.Goals.{then-asks, else-asks}
use Rattle.kept_lines.proofs.asking.asked.Goals as goal

pub loop-condition-preserved : goal.loop-condition-preserved
loop-condition-preserved c = record {
  set = now;
  most = subst (λ (set : ℕ). set < 2 ^ (condition + 1)) (sym now) (bits_few (asks features facts) (condition + 1));
}
  where
    condition : ℕ
    condition = c.loop-condition.condition

    features : ℕ
    features = c.args.features.0

    facts : Facts
    facts = c.args.facts.now

    few : condition < 56 → condition < 61
    few below = omega (arith, below)

    now : c.if-asks.set ≡ bits_below (asks features facts) (condition + 1)
    now = elim c.if-asks.branch [
      | then-asks w ↦
          w.set-is ∙ ap (λ bit. c.loop-condition.set + 1 * 2 ^ bit % 2 ^ 128) w.from.ensures
          ∙ ap (λ power. c.loop-condition.set + power) (fits condition (few c.loop-condition-test.true))
          ∙ bits_with (asks features facts) _ condition c.loop-condition.invariant.set (sym w.if-asks.ensures)
      | else-asks w ↦
          w.set-is
          ∙ bits_without (asks features facts) _ condition c.loop-condition.invariant.set (sym w.if-asks.ensures)
    ]
