use Rattle.song_cut.proofs.Counting.{counted_none}
use Rattle.song_cut.proofs.orders.piece_counts.Goals as goal

pub loop-p-init : goal.loop-p-init
loop-p-init c = counted_none c.args.table.now c.args.ways.now
