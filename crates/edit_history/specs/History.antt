-- A history of edits with undo and redo: the song that it began with, the edits that stand, in order, and those that
-- were undone, of which the one undone last comes last.
use Rattle.std.specs.Prelude.{◌-◌, List, [], ◌∷◌, ◌++◌, length, take, drop, Result, Ok, Err, Option, Some}
use Rattle.std.specs.Prelude.{None, if◌then◌else◌, ◌==◌}
use Rattle.song_model.specs.declared.songs.Song.{Song}
use Rattle.edit_ops.specs.declared.edits.Edit.{Edit}
use Rattle.edit_ops.specs.declared.edits.EditFault.{EditFault}
use Rattle.edit_ops.specs.Edits.{edited}

pub record History : Type 0 where
  pub first : Song
  pub standing : List Edit
  pub undone : List Edit

-- nothing has been done
abbrev pub begun : Song → History
begun song = record { first = song; standing = []; undone = [] }

-- ---- the song

abbrev pub goes_on : Result Song EditFault → (Song → Result Song EditFault) → Result Song EditFault
goes_on (Ok song) rest = rest song
goes_on (Err fault) rest = Err fault

-- the song after these edits, one after the other, or the refusal of the first that can't be done
abbrev pub song_after : Song → List Edit → Result Song EditFault
song_after song [] = Ok song
song_after song (edit ∷ edits) = goes_on (edited song edit) (λ next. song_after next edits)

abbrev pub song_of : History → Result Song EditFault
song_of history = song_after history.first history.standing

-- ---- the three steps

-- the edits but the last, and the last
abbrev pub but_last : List Edit → List Edit
but_last edits = take (length edits - 1) edits

abbrev pub last : List Edit → List Edit
last edits = drop (length edits - 1) edits

-- an edit joins those that stand, and what could be redone is let go; or its refusal
abbrev pub joined : History → Edit → Result Song EditFault → Result History EditFault
joined history edit (Ok song) =
    Ok (record history { standing = history.standing ++ edit ∷ []; undone = [] })
joined history edit (Err fault) = Err fault

unfoldable pub after_edit : History → Edit → Result History EditFault
after_edit history edit = joined history edit (song_after history.first (history.standing ++ edit ∷ []))

-- the last edit that stands is undone; none where none stands
unfoldable pub after_undo : History → Option History
after_undo history =
    if length history.standing == 0 then None
    else Some (record history {
      standing = but_last history.standing;
      undone = history.undone ++ last history.standing;
    })

-- the edit that was undone last stands again; none where none can be redone
unfoldable pub after_redo : History → Option History
after_redo history =
    if length history.undone == 0 then None
    else Some (record history {
      standing = history.standing ++ last history.undone;
      undone = but_last history.undone;
    })
