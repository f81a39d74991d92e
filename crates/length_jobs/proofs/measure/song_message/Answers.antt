use Rattle.std.proofs.Common.{◌+◌, refl, sym, arith}
use Rattle.command_line.proofs.Laws.{three_digits, seven_digits}
use Rattle.length_jobs.proofs.measure.song_message.Goals as goal

pub new-requires-clause-short : goal.new-requires-clause-short
new-requires-clause-short c =
    let few = c.requires.song in
    let is = c.from.ensures in
    let song = three_digits (c.from.result + 1) (omega (arith, few, is)) in
    let init = seven_digits c.args.told.now.init c.requires.digits.init in
    let cycles = seven_digits c.args.told.now.dearest.cycles c.requires.digits.cycles in
    let few_call = c.requires.digits.call in
    let is_call = c.from-2.ensures in
    let call = seven_digits c.from-2.result (omega (arith, few_call, is_call)) in
    let short = c.repeat_pieces.ensures.short in
    omega (arith, song, init, cycles, call, short)

pub returns : goal.returns
returns c =
    rw (c.new.ensures.pieces, c.from.ensures, c.from-2.ensures, sym c.repeat_pieces.ensures.text) refl
