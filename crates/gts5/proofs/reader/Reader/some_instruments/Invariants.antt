use Rattle.gts5.specs.Reading.{instrument_at}
use Rattle.gts5.proofs.Loops.{HasRead}
use Rattle.gts5.proofs.reader.Reader.some_instruments.Given as goal

abbrev pub invariant-loop-i : goal.invariant-loop-i
invariant-loop-i l = HasRead (instrument_at l.self.length) l.count l.left l._i l.instruments l.rest
