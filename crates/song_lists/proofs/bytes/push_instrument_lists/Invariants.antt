use Rattle.std.proofs.Common.{◌≡◌, ◌++◌, map}
use Rattle.std.specs.List.{concat, range_with_len}
use Rattle.song_lists.specs.DataLists.{instrument_bytes}
use Rattle.song_lists.proofs.bytes.push_instrument_lists.Given as goal

abbrev pub invariant-loop-field : goal.invariant-loop-field
invariant-loop-field l =
    l.bytes ≡ l.initial.bytes ++ concat (map (instrument_bytes l.packed) (range_with_len 0 l.field))
