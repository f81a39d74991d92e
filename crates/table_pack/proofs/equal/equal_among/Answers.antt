use Rattle.std.proofs.lemmas.List.{take_all}
use Rattle.table_pack.proofs.equal.equal_among.Goals as goal

pub returns-clause-none : goal.returns-clause-none
returns-clause-none c = λ table are.
    rw (take_all c.loop-t.t-index c.args.among.now c.loop-t-test.false) at (c.loop-t.invariant table are)
