use Rattle.std.proofs.Common.{refl}
use Rattle.cost_jobs.proofs.cost_lines.order_message.Goals as goal

pub returns : goal.returns
returns c =
    rw (c.new.ensures.pieces, c.part_name.ensures.name, c.from.ensures, c.from-2.ensures, c.from-3.ensures) refl
