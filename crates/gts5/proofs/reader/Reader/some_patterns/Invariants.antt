use Rattle.gts5.specs.Reading.{pattern_at}
use Rattle.gts5.proofs.Loops.{HasRead}
use Rattle.gts5.proofs.reader.Reader.some_patterns.Given as goal

abbrev pub invariant-loop-i : goal.invariant-loop-i
invariant-loop-i l = HasRead (pattern_at l.self.length) l.count l.left l._i l.patterns l.rest
