use Rattle.std.proofs.Common.{◌≡◌, map, take}
use Rattle.same_frames.specs.OrderLaws.{moved_byte}
use Rattle.song_join.specs.Numbers.{new_numbers}
use Rattle.song_join.proofs.parts.moved_order.Given as goal

abbrev pub invariant-loop-byte : goal.invariant-loop-byte
invariant-loop-byte l =
    l.bytes.items ≡ map (moved_byte (new_numbers l.first l.second)) (take l.byte-index l.stored)
