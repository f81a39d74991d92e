use Rattle.std.proofs.Common.{arith}
use Rattle.table_pack.proofs.ClosedRows.{entered, entered_first}
use Rattle.table_pack.proofs.closed.enter.Goals as goal

pub returns-then-first-q : goal.returns-then-first-q
returns-then-first-q c = λ table are reached.
    entered table c.args.q c.args.firsts.now c.args.closed.now c.from-first.result are reached c.from-first.ensures
    (omega (arith, c.fits-firsts c.args.q)) c.told-closed c.if-first-q.true

pub returns-else-first-q : goal.returns-else-first-q
returns-else-first-q c = λ table are reached.
    entered_first table c.args.q c.args.firsts.now c.args.closed.now c.from-first.result are reached c.from-first.ensures
    c.if-first-q.false
