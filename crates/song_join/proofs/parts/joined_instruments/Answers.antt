use Rattle.std.proofs.Common.{length, map, take, ap, arith, length-append}
use Rattle.std.proofs.lemmas.List.{length-map, length-take}
use Rattle.same_frames.specs.Maps.{moved_instrument}
use Rattle.song_join.specs.Numbers.{new_numbers}
use Rattle.song_join.proofs.Ranges.{instruments_within}
use Rattle.song_join.proofs.parts.joined_instruments.Goals as goal

pub from_vec-requires : goal.from_vec-requires
from_vec-requires c =
    let move = moved_instrument (new_numbers c.args.first.now c.args.second.now) in
    let taken = take c.loop-instrument.instrument-index c.as_slice-stored.result.now in
    let count = ap length c.loop-instrument.invariant in
    let sum = length-append c.args.first.now.instruments (map move taken) in
    let same = length-map taken move in
    let short = length-take c.loop-instrument.instrument-index c.as_slice-stored.result.now in
    let all = ap length c.as_slice-stored.ensures.items in
    let few = instruments_within c.args.first.now c.args.second.now c.requires in
    (omega arith, omega arith)
