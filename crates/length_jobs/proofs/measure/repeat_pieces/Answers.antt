use Rattle.std.proofs.Common.{arith}
use Rattle.command_line.proofs.Laws.{seven_digits}
use Rattle.length_jobs.proofs.measure.repeat_pieces.Goals as goal

pub returns-in-Some-clause-short : goal.returns-in-Some-clause-short
returns-in-Some-clause-short c =
    let few_from = rw c.in-Some.is at c.requires.from in
    let few_length = rw c.in-Some.is at c.requires.length in
    let is_from = c.from.ensures in
    let is_length = c.from-in-Some.ensures in
    let from = seven_digits c.from.result (omega (arith, few_from, is_from)) in
    let length = seven_digits c.from-in-Some.result (omega (arith, few_length, is_length)) in
    omega (arith, from, length)

pub returns-in-None-clause-short : goal.returns-in-None-clause-short
returns-in-None-clause-short c =
    let few = c.requires.calls in
    let is = c.from-in-None.ensures in
    let calls = seven_digits c.from-in-None.result (omega (arith, few, is)) in
    omega (arith, calls)
