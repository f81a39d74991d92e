use Rattle.std.proofs.Common.{◌≡◌, arith}
use Rattle.std.proofs.lemmas.Result.{err_from_is_err_and}
use Rattle.gts5.specs.Reading.{pattern_at}
use Rattle.gts5.proofs.Loops.{one_more, next_faults}
use Rattle.gts5.proofs.reader.Reader.some_patterns.Goals as goal

pub returns-in_err-pattern : goal.returns-in_err-pattern
returns-in_err-pattern c =
    let p = err_from_is_err_and c.from_residual.result c.from_residual.ensures.1 in
    let same : p.0 ≡ c.in_err-pattern.field-0.0 = cc in
    rw p.1 (next_faults (pattern_at c.args.self.length) c.args.count c.args.left.now c.loop-i._i c.loop-i.patterns
    c.loop-i.rest.now c.in_err-pattern.field-0.0 p.0 (omega arith) same c.in_err-pattern.ensures c.loop-i.invariant)

pub loop-i-preserved : goal.loop-i-preserved
loop-i-preserved c =
    one_more (pattern_at c.args.self.length) c.args.count c.args.left.now c.loop-i._i c.loop-i.patterns _
    c.loop-i.rest.now c.in_ok-pattern.after.now c.in_ok-pattern.pattern (omega arith) c.in_default.ensures.ok
    c.in_ok-pattern.ensures c.loop-i.invariant
