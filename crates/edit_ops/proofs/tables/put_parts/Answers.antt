use Rattle.std.proofs.Common.{refl}
use Rattle.edit_ops.specs.Back.{back}
use Rattle.edit_ops.proofs.tables.put_parts.Goals as goal

pub returns-clause-back : goal.returns-clause-back
unfolding back
returns-clause-back c = rw (c.exchange_parts.ensures.parts, c.exchange_parts.ensures.and_back) refl
