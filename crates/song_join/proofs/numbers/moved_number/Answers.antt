use Rattle.std.proofs.Common.{length, ap, ◌∙◌, arith}
use Rattle.song_join.proofs.Ranges.{rows_within}
use Rattle.song_join.proofs.numbers.moved_number.Goals as goal

pub raised-requires : goal.raised-requires
raised-requires c =
    let one = ap length (c.as_slice.ensures.items ∙ c.table.ensures) in
    let two = ap length (c.as_slice-2.ensures.items ∙ c.table-2.ensures) in
    let few = rows_within c.args.first.now c.args.second.now c.args.name c.requires in
    omega arith
