-- The pieces that are there, behind what was there before.
use Rattle.std.proofs.Common.{◌≡◌, ◌++◌, take, map}
use Rattle.song_chart.specs.Elements.{pieces_text}
use Rattle.song_chart.specs.Pieces.{piece_of}
use Rattle.song_chart.proofs.elements.put_pieces.Given as goal

abbrev pub invariant-loop-piece : goal.invariant-loop-piece
invariant-loop-piece l = l.out ≡ l.fn.out ++ pieces_text (map piece_of (take l.piece-index l.pieces))
