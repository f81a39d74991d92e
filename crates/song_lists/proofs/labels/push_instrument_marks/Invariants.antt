use Rattle.std.proofs.Common.{◌≡◌, ◌≤◌, ◌+◌, ◌*◌, ◌++◌, map}
use Rattle.std.specs.List.{range_with_len}
use Rattle.player_memory.specs.SongLists.{Instruments}
use Rattle.song_lists.specs.DataLists.{instruments_place, fields_before, own_mark}
use Rattle.song_lists.proofs.labels.push_instrument_marks.Given as goal

-- the labels so far, and where the next one is
abbrev pub invariant-loop-field : goal.invariant-loop-field
invariant-loop-field l =
    (l.marks ≡ l.initial.marks
    ++ map (λ field. own_mark l.dependent l.packed (Instruments field)) (range_with_len 0 l.field))
    × ((l.place ≡ instruments_place l.dependent l.packed + fields_before l.packed l.field)
    × (l.place ≤ 2809 + 63 * l.field))
