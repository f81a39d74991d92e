use Rattle.number_range.proofs.NotesOfPatterns.{AreFirstNotes}
use Rattle.number_range.proofs.notes.pattern_notes.Given as goal

abbrev pub invariant-loop-n : goal.invariant-loop-n
invariant-loop-n l = AreFirstNotes l.song l.n l.notes
