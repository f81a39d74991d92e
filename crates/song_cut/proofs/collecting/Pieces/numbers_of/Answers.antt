use Rattle.std.proofs.Common.{length, ◌∙◌, ap, arith}
use Rattle.pattern_cut.specs.Pieces.{slice}
use Rattle.song_cut.proofs.AddedPieces.{grows_both, numbers_next, numbers_count, few_pieces}
use Rattle.song_cut.proofs.collecting.Pieces.numbers_of.Goals as goal

pub loop-i-preserved : goal.loop-i-preserved
loop-i-preserved c = record {
  collected = c.in_ok-number_of.ensures.collected;
  grown =
      grows_both c.loop-i.i 1 c.args.self.now.list.items c.loop-i.self.list.items c.number_of.new.self.list.items
      c.loop-i.invariant.grown c.in_ok-number_of.ensures.grown;
  numbers =
      numbers_next c.loop-i.self.list.items c.number_of.new.self.list.items (slice c.rows_of-n.result c.args.rows.now)
      c.loop-i.i c.piece_rows.result.now c.loop-i.numbers.items c.push.new.self.items c.in_ok-number_of.field-0
      c.in_ok-number_of.ensures.grown c.loop-i.invariant.numbers c.piece_rows.ensures.piece
      c.in_ok-number_of.ensures.number c.in_ok-push.ensures.items;
}

pub returns-clause-short : goal.returns-clause-short
returns-clause-short c =
    let count = ap length c.from_vec.ensures
    ∙ numbers_count c.loop-i.self.list.items (slice c.rows_of-n.result c.args.rows.now) c.loop-i.i
    c.loop-i.numbers.items
    c.loop-i.invariant.numbers in
    let end = c.loop-i.auto.i-end in
    let few = few_pieces c.args.size (length c.args.rows.now) c.rows_of-n.result c.rows_of-n.ensures.rows
    c.requires.rows.count.most in
    omega arith
