use Rattle.std.proofs.Common.{◌≡◌, ◌++◌, take}
use Rattle.song_lists.specs.DataLists.{highs}
use Rattle.song_lists.proofs.bytes.push_highs.Given as goal

abbrev pub invariant-loop-place : goal.invariant-loop-place
invariant-loop-place l = l.bytes ≡ l.initial.bytes ++ highs l.start l.back (take l.place-index l.places)
