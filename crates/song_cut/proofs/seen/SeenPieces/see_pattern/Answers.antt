use Rattle.song_cut.proofs.Gathering.{unnamed_seen}
use Rattle.song_cut.proofs.seen.SeenPieces.see_pattern.Goals as goal

pub returns-then-not-table-from : goal.returns-then-not-table-from
returns-then-not-table-from c =
    unnamed_seen c.args.table.now c.args.ways.now c.args.p c.args.self.now c.requires.marked
    (rw c.from.ensures at c.if-not-table-from.true)
