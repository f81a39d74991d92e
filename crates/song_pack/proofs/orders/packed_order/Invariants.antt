use Rattle.std.proofs.Common.{◌≡◌, map, take, slice_index}
use Rattle.song_pack.specs.Packed.{order_byte}
use Rattle.song_pack.proofs.orders.packed_order.Given as goal

abbrev pub invariant-loop-byte : goal.invariant-loop-byte
invariant-loop-byte l = l.bytes.items ≡ map (order_byte (slice_index l.numbers)) (take l.byte-index l.stored)
