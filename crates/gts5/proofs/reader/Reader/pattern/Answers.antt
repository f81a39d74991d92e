use Rattle.std.proofs.Common.{◌*◌, arith}
use Rattle.gts5.proofs.Takes.{byte_takes, bytes_take}
use Rattle.gts5.proofs.PatternPieces.{cut_takes}
use Rattle.gts5.proofs.Within.{bytes_are}
use Rattle.gts5.proofs.reader.Reader.pattern.Goals as goal

pub from_vec-requires : goal.from_vec-requires
from_vec-requires c =
    let total = c.args.self.length in
    let are = bytes_are c.args.left.now c.type_inv.left in
    let count = byte_takes total c.args.left.now (c.in_ok-count.count, c.in_ok-count.rest.now) are c.in_ok-count.ensures
    in
    let run = bytes_take total (4 * c.from.result) c.in_ok-count.rest.now
    (c.in_ok-piece.piece.now, c.in_ok-piece.rest.now) count.left c.in_ok-piece.ensures.taken in
    let cut = cut_takes c.offset.result 0 c.in_ok-count.count c.in_ok-piece.piece.now c.in_ok-rows.rows.items
    (omega (arith, run.size, c.from.ensures)) run.each (omega arith) c.in_ok-rows.ensures in
    let least = cut.least in
    let most = cut.most in
    record { count = record { least = omega arith; most = omega arith }; each = cut.each }
