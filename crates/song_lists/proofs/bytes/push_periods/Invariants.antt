use Rattle.std.proofs.Common.{◌≡◌, ◌++◌, take}
use Rattle.song_lists.specs.DataLists.{periods}
use Rattle.song_lists.proofs.bytes.push_periods.Given as goal

abbrev pub invariant-loop-row : goal.invariant-loop-row
invariant-loop-row l = l.bytes ≡ l.initial.bytes ++ periods (take l.row-index l.rows)
