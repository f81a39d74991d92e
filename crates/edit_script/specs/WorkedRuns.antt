-- What texts make of a song, worked out by hand.
use Rattle.std.specs.Prelude.{ℕ, List, [], ◌∷◌, ◌++◌, codes}
use Rattle.song_model.specs.Silence.{empty_song}
use Rattle.edit_script.specs.Edited.{IsEditedBy, FailsAt}

-- a row of the wave table; the line comes twice
abbrev pub row_line : List ℕ
row_line = codes "table-insert 00 01 21 00\n"

-- the row is inserted; and an undo takes it out, and a redo puts it in again
abbrev pub RowsComeAndGo : Type 0
RowsComeAndGo =
    IsEditedBy row_line empty_song (record empty_song { wave = record { left = 0x21; right = 0 } ∷ [] })
    × IsEditedBy (row_line ++ codes "undo\n") empty_song empty_song
    × IsEditedBy (row_line ++ codes "undo\nredo") empty_song
    (record empty_song { wave = record { left = 0x21; right = 0 } ∷ [] })

-- an undo too many, and a redo with nothing undone, also where an edit came between
abbrev pub NothingIsTold : Type 0
NothingIsTold =
    FailsAt (row_line ++ codes "undo\nundo\n") empty_song 3 (codes "nothing to undo")
    × FailsAt (codes "redo") empty_song 1 (codes "nothing to redo")
    × FailsAt (row_line ++ codes "undo\nsubtune-add\nredo") empty_song 4 (codes "nothing to redo")

-- the reasons of an edit; of a bad line it is told before any command is done
abbrev pub ReasonsAreTold : Type 0
ReasonsAreTold =
    FailsAt (codes "table 04 01 00 00") empty_song 1 (codes "no such place")
    × FailsAt (codes "pattern-count d1") empty_song 1 (codes "over limit")
    × FailsAt (codes "instrument 01 09 00") empty_song 1 (codes "bad value")
    × FailsAt (codes "table 04 01 00 00\nrows\n") empty_song 2 (codes "bad line")
