use Rattle.std.proofs.Common.{length, take, slice_index, ap, arith}
use Rattle.std.specs.List.{filter}
use Rattle.std.proofs.lemmas.List.{length-map, length-take}
use Rattle.song_model.specs.LookUp.{is_playable_subtune}
use Rattle.song_pack.specs.Packed.{packed_subtune}
use Rattle.song_pack.proofs.StoredPatterns.{filter_few}
use Rattle.song_pack.proofs.orders.packed_subtunes.Goals as goal

pub from_vec-requires : goal.from_vec-requires
from_vec-requires c =
    let taken = take c.loop-subtune.subtune-index c.as_slice-stored.result.now in
    let count = ap length c.loop-subtune.invariant in
    let same = length-map (filter is_playable_subtune taken) (packed_subtune (slice_index c.args.numbers.now)) in
    let few = filter_few is_playable_subtune taken in
    let short = length-take c.loop-subtune.subtune-index c.as_slice-stored.result.now in
    let all = ap length c.as_slice-stored.ensures.items in
    let limit = c.as_slice-stored.ensures.limit in
    (omega arith, omega arith)
