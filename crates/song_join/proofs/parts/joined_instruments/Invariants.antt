use Rattle.std.proofs.Common.{◌≡◌, ◌++◌, map, take}
use Rattle.same_frames.specs.Maps.{moved_instrument}
use Rattle.song_join.specs.Numbers.{new_numbers}
use Rattle.song_join.proofs.parts.joined_instruments.Given as goal

abbrev pub invariant-loop-instrument : goal.invariant-loop-instrument
invariant-loop-instrument l =
    l.list.items ≡ l.first.instruments
    ++ map (moved_instrument (new_numbers l.first l.second)) (take l.instrument-index l.stored)
