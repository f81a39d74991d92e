-- A line more is read.
use Rattle.std.proofs.Common.{rules, ◌≡◌, Some, position, decimal, take, ◌==◌}
use Rattle.bound_text.proofs.Lines.{line_read, fit_more}
use Rattle.bound_text.proofs.reading.read.Goals as goal

pub loop-left-preserved : goal.loop-left-preserved
loop-left-preserved c =
    let place : position (λ byte. byte == 10) c.loop-left.left.now ≡ Some c.in-Some.end = search rules in
    let line : take c.in-Some.end c.loop-left.left.now ≡ decimal c.in-Some-number_of.number = search rules in
    let are = line_read c.args.text.now c.loop-left.left.now c.loop-left.numbers c.in-Some.end
    c.in-Some-number_of.number c.loop-left.invariant.are place line in
    let fit = fit_more c.loop-left.numbers c.in-Some-number_of.number c.loop-left.invariant.fit in
    search (rules, are, fit)
