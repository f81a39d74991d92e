use Rattle.std.proofs.Common.{◌+◌, arith}
use Rattle.std.proofs.lemmas.List.{length-take-le}
use Rattle.gts5.proofs.Takes.{byte_takes, bytes_take}
use Rattle.gts5.proofs.Cuts.{entries_before}
use Rattle.gts5.proofs.Within.{bytes_are}
use Rattle.gts5.proofs.reader.Reader.order.Goals as goal

pub from_vec-requires : goal.from_vec-requires
from_vec-requires c =
    let total = c.args.self.length in
    let are = bytes_are c.args.left.now c.type_inv.left in
    let count = byte_takes total c.args.left.now (c.in_ok-count.count, c.in_ok-count.rest.now) are c.in_ok-count.ensures
    in
    let run = bytes_take total (c.from.result + 1) c.in_ok-count.rest.now
    (c.in_ok-piece.piece.now, c.in_ok-piece.rest.now) count.left c.in_ok-piece.ensures.taken in
    rw c.in_ok-bytes.ensures.items (record {
      count = omega (arith, length-take-le c.endmark-place.result c.in_ok-piece.piece.now (omega arith));
      each = rw c.endmark-place.ensures.place (entries_before c.in_ok-piece.piece.now run.each);
    })
