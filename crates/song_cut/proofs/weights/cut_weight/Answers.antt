use Rattle.std.proofs.Common.{◌∙◌}
use Rattle.song_cut.proofs.CutWeights.{many_are_heavy, long_are_heavy, others_weigh, order_inside}
use Rattle.song_cut.proofs.weights.cut_weight.Goals as goal

pub returns-in_default : goal.returns-in_default
returns-in_default c =
    many_are_heavy c.args.song.now c.args.table.now c.args.ways.now c.requires.table c.in_default.ensures.many

pub pieces_weight-requires-clause-inside : goal.pieces_weight-requires-clause-inside
pieces_weight-requires-clause-inside c =
    order_inside c.args.song.now c.args.table.now c.args.ways.now c.as_slice.result.now c.requires.table
    (c.as_slice.ensures.value ∙ c.in-Some.ensures.order)

pub returns-in-Some-orders_length : goal.returns-in-Some-orders_length
returns-in-Some-orders_length c =
    others_weigh c.args.song.now c.args.table.now c.args.ways.now c.piece_counts.result c.as_slice.result.now
    c.in-Some-orders_length.length c.pieces_weight.result c.requires.limits c.requires.table c.piece_counts.ensures
    (c.as_slice.ensures.value ∙ c.in-Some.ensures.order) c.as_slice.ensures.fits c.in-Some-orders_length.ensures.some.0
    c.in-Some-orders_length.ensures.some.1 c.pieces_weight.ensures.weight

pub returns-in-None : goal.returns-in-None
returns-in-None c =
    long_are_heavy c.args.song.now c.args.table.now c.args.ways.now c.piece_counts.result c.requires.limits
    c.requires.table c.piece_counts.ensures c.in-None.ensures.none
