use Rattle.std.proofs.Common.{◌≡◌, ◌++◌, take}
use Rattle.song_lists.specs.DataLists.{lefts, stored_rows}
use Rattle.song_lists.proofs.bytes.push_stored_lefts.Given as goal

abbrev pub invariant-loop-row : goal.invariant-loop-row
invariant-loop-row l = l.bytes ≡ l.initial.bytes ++ lefts (stored_rows (take l.row-index l.rows))
