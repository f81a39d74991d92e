use Rattle.command_line.proofs.Forms.{no_count}
use Rattle.command_line.proofs.arguments.count_of.Goals as goal

pub returns-then-number-eq0 : goal.returns-then-number-eq0
returns-then-number-eq0 c =
    no_count c.ranges.limit.fits (rw (c.if-number-eq0.true) at c.in_ok-number.ensures)
