use Rattle.number_range.proofs.MadeSets.{set_both, sum_of}
use Rattle.number_range.proofs.SoundedNumbers.{sounded_are}
use Rattle.number_range.proofs.numbers.sounded_numbers.Goals as goal

pub returns : goal.returns
returns c =
    sounded_are c.args.song.now c.sounding_notes-notes.result c.sounding_notes-notes.ensures
    (set_both (set_both (sum_of c.sounding_notes-notes.ensures c.sides.ensures c.plus-added.ensures)
    c.own_numbers-own.ensures c.union.ensures) c.slid_to.ensures c.union-2.ensures)
