use Rattle.std.proofs.Common.{arith}
use Rattle.player_memory.proofs.ReadFields.{left_out_within}
use Rattle.player_memory.proofs.listed.bytes_read.Goals as goal

pub overflow_sub-result-2 : goal.overflow_sub-result-2
overflow_sub-result-2 c =
    let within = left_out_within c.args.packed.now in
    let size = c.size.ensures.size in
    let shared = c.shared_size.ensures.size in
    let unread = c.unread_size.ensures.size in
    let unlisted = c.unlisted_size.ensures.size in
    omega (arith, within, size, shared, unread, unlisted)
