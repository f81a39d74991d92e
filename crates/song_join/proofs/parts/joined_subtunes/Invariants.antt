use Rattle.std.proofs.Common.{◌≡◌, ◌++◌, map, take}
use Rattle.std.specs.List.{filter}
use Rattle.song_model.specs.LookUp.{is_playable_subtune}
use Rattle.same_frames.specs.OrderLaws.{moved_subtune}
use Rattle.song_join.specs.Numbers.{new_numbers}
use Rattle.song_join.proofs.parts.joined_subtunes.Given as goal

abbrev pub invariant-loop-subtune : goal.invariant-loop-subtune
invariant-loop-subtune l =
    l.list.items ≡ l.first.subtunes
    ++ map (moved_subtune (new_numbers l.first l.second)) (filter is_playable_subtune (take l.subtune-index l.stored))
