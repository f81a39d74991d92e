use Rattle.std.proofs.Common.{length, map, take, ap, ◌∙◌, arith, length-append}
use Rattle.std.proofs.lemmas.List.{length-map, length-take}
use Rattle.song_model.specs.LookUp.{table_of}
use Rattle.same_frames.specs.Maps.{moved_row}
use Rattle.song_join.specs.Numbers.{new_numbers}
use Rattle.song_join.proofs.Ranges.{rows_within}
use Rattle.song_join.proofs.parts.joined_table.Goals as goal

pub from_vec-requires : goal.from_vec-requires
from_vec-requires c =
    let move = moved_row (new_numbers c.args.first.now c.args.second.now) c.args.name in
    let taken = take c.loop-row.row-index c.as_slice-stored.result.now in
    let count = ap length c.loop-row.invariant in
    let sum = length-append (table_of c.args.first.now c.args.name) (map move taken) in
    let same = length-map taken move in
    let short = length-take c.loop-row.row-index c.as_slice-stored.result.now in
    let all = ap length (c.as_slice-stored.ensures.items ∙ c.table.ensures) in
    let few = rows_within c.args.first.now c.args.second.now c.args.name c.requires in
    (omega arith, omega arith)
