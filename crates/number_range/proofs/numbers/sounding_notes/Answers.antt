use Rattle.number_range.proofs.MadeSets.{set_both}
use Rattle.number_range.proofs.SoundedNumbers.{sounding_with, sounding_without}
use Rattle.number_range.proofs.numbers.sounding_notes.Goals as goal

pub returns-then-asks_before_notes : goal.returns-then-asks_before_notes
returns-then-asks_before_notes c =
    sounding_with c.args.song.now (c.asks_before_notes.ensures.0 c.if-asks_before_notes.true)
    (set_both c.played_notes-played.ensures c.only.ensures c.union.ensures)

pub returns-else-asks_before_notes : goal.returns-else-asks_before_notes
returns-else-asks_before_notes c =
    sounding_without c.args.song.now
    (λ asks. let is = c.asks_before_notes.ensures.1 asks in let not = c.if-asks_before_notes.false in cc)
    c.played_notes-played.ensures
