use Rattle.std.proofs.Common.{◌≡◌, arith}
use Rattle.std.proofs.lemmas.Result.{err_from_is_err_and}
use Rattle.gts5.specs.Reading.{instrument_at}
use Rattle.gts5.proofs.Loops.{one_more, next_faults}
use Rattle.gts5.proofs.reader.Reader.some_instruments.Goals as goal

pub returns-in_err-instrument : goal.returns-in_err-instrument
returns-in_err-instrument c =
    let p = err_from_is_err_and c.from_residual.result c.from_residual.ensures.1 in
    let same : p.0 ≡ c.in_err-instrument.field-0.0 = cc in
    rw p.1 (next_faults (instrument_at c.args.self.length) c.args.count c.args.left.now c.loop-i._i c.loop-i.instruments
    c.loop-i.rest.now c.in_err-instrument.field-0.0 p.0 (omega arith) same c.in_err-instrument.ensures
    c.loop-i.invariant)

pub loop-i-preserved : goal.loop-i-preserved
loop-i-preserved c =
    one_more (instrument_at c.args.self.length) c.args.count c.args.left.now c.loop-i._i c.loop-i.instruments _
    c.loop-i.rest.now c.in_ok-instrument.after.now c.in_ok-instrument.instrument (omega arith) c.in_default.ensures.ok
    c.in_ok-instrument.ensures c.loop-i.invariant
