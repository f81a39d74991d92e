use Rattle.std.proofs.Common.{arith}
use Rattle.command_line.proofs.Laws.{digits_fit, byte_fits, ten_digits, sum_fits}
use Rattle.jobs.proofs.measuring.selftest_report.Goals as goal

pub says-requires-clause-short : goal.says-requires-clause-short
says-requires-clause-short c =
    let number = digits_fit c.args.number c.ranges.number.fits in
    let subtunes = byte_fits c.from.result (omega (arith, c.from.ensures, c.ranges.subtunes.fits)) in
    let sum = sum_fits c.args.sum in
    let steps = ten_digits c.args.steps c.requires in
    omega (arith, number, subtunes, sum, steps)
