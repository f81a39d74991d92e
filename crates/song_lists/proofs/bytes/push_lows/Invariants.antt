use Rattle.std.proofs.Common.{◌≡◌, ◌++◌, take}
use Rattle.song_lists.specs.DataLists.{lows}
use Rattle.song_lists.proofs.bytes.push_lows.Given as goal

abbrev pub invariant-loop-place : goal.invariant-loop-place
invariant-loop-place l = l.bytes ≡ l.initial.bytes ++ lows l.start l.back (take l.place-index l.places)
