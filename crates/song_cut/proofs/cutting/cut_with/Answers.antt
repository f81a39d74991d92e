use Rattle.std.proofs.Common.{map, refl, sym, ◌∙◌, ap, arith}
use Rattle.song_cut.specs.Numbers.{rows_at}
use Rattle.song_cut.proofs.CutWeights.{few_that_fit, order_inside}
use Rattle.song_cut.proofs.CutOrders.{counts_places}
use Rattle.song_cut.proofs.Cuttable.{cuttable_subtunes, song_is_cut}
use Rattle.song_cut.proofs.cutting.cut_with.Goals as goal

pub unreachable-requires : goal.unreachable-requires
unreachable-requires c =
    let few = few_that_fit c.args.song.now c.args.table.now c.args.ways.now c.requires.table c.requires.fits in
    let many = c.in_default.ensures.many in
    omega arith

pub cut_patterns-requires-clause-inside : goal.cut_patterns-requires-clause-inside
cut_patterns-requires-clause-inside c =
    order_inside c.args.song.now c.args.table.now c.args.ways.now c.as_slice.result.now c.requires.table
    (c.as_slice.ensures.value ∙ c.in-Some.ensures.order)

pub cut_subtunes-requires-clause-subtunes : goal.cut_subtunes-requires-clause-subtunes
cut_subtunes-requires-clause-subtunes c =
    cuttable_subtunes c.args.song.now c.args.table.now c.args.ways.now c.as_slice-2.result.now c.in_ok-places.places
    c.requires.limits c.requires.table (c.as_slice-2.ensures.value ∙ c.in-Some.ensures.order) c.in_ok-places.ensures
    c.requires.fits

pub cut_subtunes-requires-clause-counts : goal.cut_subtunes-requires-clause-counts
cut_subtunes-requires-clause-counts c =
    counts_places c.args.table.now c.args.ways.now c.as_slice-2.result.now c.in_ok-places.places
    c.piece_counts-counts.result c.in_ok-places.ensures c.piece_counts-counts.ensures

pub returns : goal.returns
returns c =
    song_is_cut c.args.song.now _ c.args.table.now c.args.ways.now c.as_slice-2.result.now c.in_ok-places.places
    c.requires.limits c.requires.table (c.as_slice-2.ensures.value ∙ c.in-Some.ensures.order) c.in_ok-places.ensures
    refl refl refl c.in_ok-subtunes.ensures c.in_ok-copy.ensures c.in_ok-copy-2.ensures c.in_ok-copy-3.ensures
    c.in_ok-copy-4.ensures c.in_ok-copy-5.ensures
    (c.in_ok-patterns.ensures
    ∙ ap (map (rows_at c.args.table.now.pieces.items)) (c.as_slice.ensures.value ∙ sym c.as_slice-2.ensures.value))
