use Rattle.std.proofs.Common.{length, map, take, ap, arith, length-append}
use Rattle.std.proofs.lemmas.List.{length-map, length-take}
use Rattle.song_join.specs.declared.faults.JoinPart.TheVariants.{Patterns}
use Rattle.song_join.specs.Numbers.{new_numbers}
use Rattle.song_join.specs.Joined.{moved_pattern_row}
use Rattle.song_join.proofs.parts.joined_patterns.Goals as goal

pub from_vec-requires : goal.from_vec-requires
from_vec-requires c =
    let move = map (moved_pattern_row (new_numbers c.args.first.now c.args.second.now)) in
    let taken = take c.loop-pattern.pattern-index c.as_slice-stored.result.now in
    let count = ap length c.loop-pattern.invariant in
    let sum = length-append c.args.first.now.patterns (map move taken) in
    let same = length-map taken move in
    let short = length-take c.loop-pattern.pattern-index c.as_slice-stored.result.now in
    let all = ap length c.as_slice-stored.ensures.items in
    let few = c.requires.part Patterns in
    (omega arith, omega arith)
