use Rattle.number_range.specs.Notes.{NamesNote}
use Rattle.number_range.proofs.MadeSets.{set_first, set_more, set_all}
use Rattle.number_range.proofs.orders.named_notes.Goals as goal

pub loop-byte-init : goal.loop-byte-init
loop-byte-init c = set_first (NamesNote c.args.song.now) c.args.entries.now c.none-named.ensures

pub loop-byte-preserved : goal.loop-byte-preserved
loop-byte-preserved c =
    set_more (NamesNote c.args.song.now) c.args.entries.now c.loop-byte.byte-index _ c.loop-byte-test.true
    c.loop-byte.invariant c.entry_notes.ensures c.union-named.ensures

pub returns : goal.returns
returns c =
    set_all (NamesNote c.args.song.now) c.args.entries.now c.loop-byte.byte-index c.loop-byte-test.false
    c.loop-byte.invariant
