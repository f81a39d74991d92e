use Rattle.std.proofs.Common.{arith}
use Rattle.std.proofs.lemmas.Result.{err_from_is_err_and}
use Rattle.command_line.proofs.Room.{first_pieces}
use Rattle.command_line.proofs.line.Line.tell.Goals as goal

pub returns-in_err-add_piece-clause-full : goal.returns-in_err-add_piece-clause-full
returns-in_err-add_piece-clause-full c =
    let p = err_from_is_err_and c.from_residual.result c.from_residual.ensures.1 in
    let so_far = c.loop-piece.invariant in
    let more = first_pieces _ _ _ _ _ c.loop-piece-test.true so_far.text c.in_err-add_piece.ensures.full in
    let over = rw c.pieces-piece-items.ensures.pieces at more in
    rw p.1 (omega (arith, over, so_far.room))
