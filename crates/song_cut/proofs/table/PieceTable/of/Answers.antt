use Rattle.song_cut.proofs.PieceTables.{table_is}
use Rattle.song_cut.proofs.table.PieceTable.of.Goals as goal

pub returns : goal.returns
returns c =
    table_is c.args.song.now _ c.new-pieces.result.list.items c.number_lists.new.self.list.items
    c.number_lists-2.new.self.list.items c.number_lists-3.new.self.list.items c.number_lists-4.new.self.list.items
    c.new-pieces.ensures.none
    (record {
      grown = c.in_ok-whole.ensures.grown;
      are_lists = c.in_ok-whole.ensures.lists;
      numbers = c.in_ok-whole.ensures.numbers;
    })
    (record {
      grown = c.in_ok-rows64.ensures.grown;
      are_lists = c.in_ok-rows64.ensures.lists;
      numbers = c.in_ok-rows64.ensures.numbers;
    })
    (record {
      grown = c.in_ok-rows32.ensures.grown;
      are_lists = c.in_ok-rows32.ensures.lists;
      numbers = c.in_ok-rows32.ensures.numbers;
    })
    (record {
      grown = c.in_ok-rows16.ensures.grown;
      are_lists = c.in_ok-rows16.ensures.lists;
      numbers = c.in_ok-rows16.ensures.numbers;
    })
    (record {
      grown = c.in_ok-rows8.ensures.grown;
      are_lists = c.in_ok-rows8.ensures.lists;
      numbers = c.in_ok-rows8.ensures.numbers;
    })
    c.pattern_marks-marks.ensures.named c.in_ok-rows8.ensures.collected.once
