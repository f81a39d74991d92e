use Rattle.std.proofs.Common.{arith}
use Rattle.asm6502.proofs.Naming.{size_bound}
use Rattle.asm6502.proofs.labels.labels_of.Goals as goal

pub note-requires : goal.note-requires
note-requires c =
    let size = c.loop-line.invariant.0.size in
    let lines = c.requires.lines in
    let bytes = c.requires.bytes in
    omega (
      arith,
      size_bound c.args.set.0 c.args.lines.now c.loop-line.line-index c.line-item.result
          c.loop-line-test.true c.line-item.is,
    )
