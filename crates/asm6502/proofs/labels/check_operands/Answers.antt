use Rattle.std.proofs.Common.{sym, take}
use Rattle.asm6502.specs.Faults.{unknown_label}
use Rattle.asm6502.proofs.Firsts.{found_here, searched_more}
use Rattle.asm6502.proofs.labels.check_operands.Goals as goal

pub returns-in-Some : goal.returns-in-Some
returns-in-Some c =
    let test = sym (c.in-Some.ensures c.args.lines.now (take c.loop-line.line-index c.args.lines.now) c.requires) in
    found_here (unknown_label c.args.set.0 c.args.lines.now) c.args.lines.now c.loop-line.line-index
    c.line-item.result _ c.loop-line-test.true c.line-item.is test c.loop-line.invariant

pub loop-line-preserved : goal.loop-line-preserved
loop-line-preserved c =
    let test = sym (c.in_default.ensures c.args.lines.now (take c.loop-line.line-index c.args.lines.now) c.requires)
    in
    searched_more (unknown_label c.args.set.0 c.args.lines.now) c.args.lines.now c.loop-line.line-index
    c.line-item.result c.loop-line-test.true c.line-item.is test c.loop-line.invariant
