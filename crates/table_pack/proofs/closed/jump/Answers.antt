use Rattle.std.proofs.Common.{arith}
use Rattle.table_pack.proofs.ClosedRows.{jumped_inside, jumped_out}
use Rattle.table_pack.proofs.closed.jump.Goals as goal

pub returns-then-from-own : goal.returns-then-from-own
returns-then-from-own c = λ table are reached_p reached some.
    jumped_out table c.args.p c.args.target c.args.firsts.now c.args.closed.now c.enter.new.closed c.from-own.result
    c.from.result are reached_p reached some c.from-own.ensures c.from.ensures c.if-from-own.true
    (omega (arith, c.fits-firsts c.args.p)) c.told-closed (c.enter.ensures table are reached)

pub returns-else-from-own : goal.returns-else-from-own
returns-else-from-own c = λ table are reached_p reached some.
    jumped_inside table c.args.p c.args.target c.args.firsts.now c.args.closed.now c.from-own.result c.from.result are
    reached_p reached some c.from-own.ensures c.from.ensures c.if-from-own.false
