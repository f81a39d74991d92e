use Rattle.std.proofs.Common.{length, ap, arith}
use Rattle.song_join.specs.declared.faults.JoinPart.TheVariants.{Patterns}
use Rattle.song_join.proofs.numbers.moved_byte.Goals as goal

pub overflow_add-result : goal.overflow_add-result
overflow_add-result c =
    let few = c.requires.within.part Patterns in
    let there = c.requires.stored c.if-byte-lt-FIRST_REPEAT.true in
    let all = ap length c.as_slice.ensures.items in
    omega arith
