use Rattle.std.proofs.Common.{◌≡◌, ◌≤◌, flat_map, take}
use Rattle.command_line.specs.Message.{piece_text}
use Rattle.command_line.proofs.line.Line.tell.Given as goal

abbrev pub invariant-loop-piece : goal.invariant-loop-piece
invariant-loop-piece l = record {
  text : l.self.text ≡ flat_map piece_text (take l.piece-index l.piece-items);
  room : l.fn.self.room ≤ l.self.room;
}
