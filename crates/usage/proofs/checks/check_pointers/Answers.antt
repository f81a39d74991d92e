use Rattle.std.proofs.Common.{◌∙◌, sym, arith}
use Rattle.usage.proofs.TableRows.{jump_is_first, no_jump}
use Rattle.usage.proofs.checks.check_pointers.Goals as goal

pub returns-then-is_jump-clause-found : goal.returns-then-is_jump-clause-found
returns-then-is_jump-clause-found c =
    jump_is_first c.args.song.now c.args.name c.loop-p.p c.named_rows-named.result c.named_rows-named.ensures
    c.loop-p.invariant
    (rw c.from.ensures at c.if-named-from.true) (rw c.row_or_zero.ensures at (sym c.is_jump.ensures ∙ c.if-is_jump.true))

pub returns-clause-none : goal.returns-clause-none
returns-clause-none c =
    let few = c.requires.few in
    no_jump c.args.song.now c.args.name c.loop-p.p c.named_rows-named.result c.named_rows-named.ensures (omega arith)
    c.loop-p.invariant
