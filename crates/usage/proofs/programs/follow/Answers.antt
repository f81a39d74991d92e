use Rattle.usage.proofs.Following.{starts, goes_on, falls, meets, ends, row_inside}
use Rattle.usage.proofs.programs.follow.Goals as goal

pub loop-next-init : goal.loop-next-init
loop-next-init c = starts c.args.name c.args.rows.now c.args.from c.args.marks.now c.told-marks c.requires.from
    c.requires.closed

pub bounds-marks-p : goal.bounds-marks-p
bounds-marks-p c = row_inside c.loop-next.invariant c.in-Some.is

pub returns-then-marks-p-clause-marked : goal.returns-then-marks-p-clause-marked
returns-then-marks-p-clause-marked c =
    (meets c.args.name c.args.rows.now c.args.from c.in-Some.p c.args.marks.now c.loop-next.marks
    (rw c.in-Some.is at c.loop-next.invariant) c.if-marks-p.true).marked

pub bounds-marks-p-in-Some : goal.bounds-marks-p-in-Some
bounds-marks-p-in-Some c = row_inside c.loop-next.invariant c.in-Some.is

pub loop-next-smaller : goal.loop-next-smaller
loop-next-smaller c =
    let inside = row_inside c.loop-next.invariant c.in-Some.is in
    falls c.loop-next.marks c.in-Some.p (rw c.loop-next.invariant.count inside) c.if-marks-p.false

pub loop-next-preserved : goal.loop-next-preserved
loop-next-preserved c =
    goes_on c.args.name c.args.rows.now c.args.from c.in-Some.p c.args.marks.now c.loop-next.marks c.led_to-next.result
    (rw c.in-Some.is at c.loop-next.invariant) c.led_to-next.ensures.row c.led_to-next.ensures.small

pub returns-clause-marked : goal.returns-clause-marked
returns-clause-marked c =
    (ends c.args.name c.args.rows.now c.args.from c.args.marks.now c.loop-next.marks
    (rw c.in_default.is at c.loop-next.invariant)).marked
