use Rattle.std.proofs.Common.{ap, ◌∙◌}
use Rattle.std.specs.List.{list_any}
use Rattle.edit_ops.specs.Patterns.{leaves_range}
use Rattle.edit_ops.proofs.PatternLaws.{transposed_is_pattern}
use Rattle.edit_ops.proofs.patterns.transpose_pattern.Goals as goal

pub put_pattern-requires-clause-limits : goal.put_pattern-requires-clause-limits
put_pattern-requires-clause-limits c =
    rw c.in_ok-rows.ensures
    (transposed_is_pattern c.args.by c.rows_at.result.now (c.rows_at.ensures.limits c.requires.place)
    (ap (list_any (leaves_range c.args.by)) c.rows_at.ensures.rows ∙ c.requires.value))
