use Rattle.std.proofs.Common.{◌+◌, ◌*◌, arith}
use Rattle.song_cut.specs.Numbers.{most_of}
use Rattle.song_cut.proofs.AddedPieces.{grows_both, grows_to}
use Rattle.song_cut.proofs.PieceTables.{lists_next, list_numbers_next}
use Rattle.song_cut.proofs.collecting.Pieces.number_lists.Goals as goal

pub loop-p-preserved : goal.loop-p-preserved
loop-p-preserved c = record {
  collected = c.in_ok-pattern_numbers.ensures.collected;
  grown =
      grows_to (most_of c.args.size * c.loop-p.p + most_of c.args.size) (most_of c.args.size * (c.loop-p.p + 1)) _ _
      (grows_both (most_of c.args.size * c.loop-p.p) (most_of c.args.size) c.args.self.now.list.items
      c.loop-p.self.list.items
      c.pattern_numbers.new.self.list.items c.loop-p.invariant.grown c.in_ok-pattern_numbers.ensures.grown) (omega
      arith);
  lists =
      lists_next c.loop-p.p c.loop-p.lists.items _ c.push.new.self.items c.loop-p.invariant.lists
      c.in_ok-pattern_numbers.ensures.small c.in_ok-push.ensures.items;
  numbers =
      list_numbers_next c.args.song.now c.args.size c.loop-p.p c.loop-p.self.list.items
      c.pattern_numbers.new.self.list.items c.loop-p.lists.items _ c.push.new.self.items
      c.in_ok-pattern_numbers.ensures.grown c.loop-p.invariant.lists c.loop-p.invariant.numbers
      c.in_ok-pattern_numbers.ensures.numbers c.in_ok-push.ensures.items;
}
