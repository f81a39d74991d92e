-- What has been added: the pieces so far.
use Rattle.std.proofs.Common.{◌≡◌, ◌++◌, take}
use Rattle.std.specs.List.{flat_map}
use Rattle.player_text.proofs.pieces.add.Given as goal

abbrev pub invariant-loop-piece : goal.invariant-loop-piece
invariant-loop-piece l =
    l.lines ≡ l.fn.lines ++ flat_map (λ piece. piece.now) (take l.piece-index l.pieces)
