use Rattle.std.proofs.Common.{List, length, reverse, refl, ap, ◌∙◌}
use Rattle.song_model.specs.declared.rows.Row.{Row}
use Rattle.edit_ops.specs.declared.numbered.NumberedPattern.{NumberedPattern}
use Rattle.edit_ops.specs.Numbered.{are_stored, exchanged}
use Rattle.edit_ops.proofs.NumberedLaws.{stored_back, with_all_back}
use Rattle.edit_ops.proofs.inverses.exchange_parts.Goals as goal

pub returns-clause-parts : goal.returns-clause-parts
returns-clause-parts c =
    let patterns = c.args.song.now.patterns in
    ap (λ (parts : List NumberedPattern). are_stored (length c.exchange_patterns.new.patterns) parts)
    c.exchange_patterns.ensures.before
    ∙ ap (λ (ps : List (List Row)). are_stored (length ps) (reverse (exchanged patterns c.args.parts.patterns)))
    c.exchange_patterns.ensures.after
    ∙ stored_back patterns c.args.parts.patterns c.requires

pub returns-clause-and_back : goal.returns-clause-and_back
returns-clause-and_back c = rw (
  c.replace.ensures.value,
  c.replace-2.ensures.value,
  c.replace-3.ensures.value,
  c.replace-4.ensures.value,
  c.replace-5.ensures.value,
  c.exchange_patterns.ensures.before,
  c.exchange_patterns.ensures.after,
  with_all_back c.args.song.now.patterns c.args.parts.patterns,
) refl
