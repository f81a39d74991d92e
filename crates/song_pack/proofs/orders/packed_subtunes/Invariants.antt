use Rattle.std.proofs.Common.{◌≡◌, map, take, slice_index}
use Rattle.std.specs.List.{filter}
use Rattle.song_model.specs.LookUp.{is_playable_subtune}
use Rattle.song_pack.specs.Packed.{packed_subtune}
use Rattle.song_pack.proofs.orders.packed_subtunes.Given as goal

abbrev pub invariant-loop-subtune : goal.invariant-loop-subtune
invariant-loop-subtune l =
    l.list.items ≡ map (packed_subtune (slice_index l.numbers))
    (filter is_playable_subtune (take l.subtune-index l.stored))
