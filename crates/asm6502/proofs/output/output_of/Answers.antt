use Rattle.std.proofs.Common.{arith, []}
use Rattle.asm6502.proofs.Sound.{sound_at}
use Rattle.asm6502.proofs.Tables.{known_at}
use Rattle.asm6502.proofs.Writing.{front_size-le}
use Rattle.asm6502.proofs.output.output_of.Goals as goal

pub put-requires-clause-fits : goal.put-requires-clause-fits
put-requires-clause-fits c =
    let size = c.loop-number.invariant.0.size in
    let fits = c.requires.fits in
    omega (arith, front_size-le c.args.set.0 c.args.lines.now c.loop-number.number)

pub put-requires-clause-sound : goal.put-requires-clause-sound
put-requires-clause-sound c =
    sound_at c.args.set.0 [] c.args.lines.now c.loop-number.number c.index-lines-number.result c.requires.sound
    c.loop-number-test.true c.index-lines-number.is

pub put-requires-clause-known : goal.put-requires-clause-known
put-requires-clause-known c =
    known_at c.args.labels.now c.args.set.0 c.args.lines.now [] c.args.lines.now c.loop-number.number
    c.index-lines-number.result c.requires.places c.requires.known c.loop-number-test.true c.index-lines-number.is
