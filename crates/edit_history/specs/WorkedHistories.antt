-- Short histories, worked out by hand: a song gets a pattern, then a subtune.
use Rattle.std.specs.Prelude.{◌≡◌, [], ◌∷◌, replicate, Ok, Err, Some, None}
use Rattle.song_model.specs.LookUp.{void_subtune}
use Rattle.song_model.specs.Silence.{empty_song, rest_row}
use Rattle.edit_ops.specs.declared.edits.Edit.{Edit}
use Rattle.edit_ops.specs.declared.edits.Edit.TheVariants.{SetPatternCount, SetLength, AddSubtune}
use Rattle.edit_ops.specs.declared.edits.EditFault.TheVariants.{NoSuchPlace}
use Rattle.edit_history.specs.History.{History, begun, song_of, after_edit, after_undo, after_redo}

abbrev pub pattern_comes : Edit
pattern_comes = SetPatternCount 1

abbrev pub both_stand : History
both_stand = record { first = empty_song; standing = pattern_comes ∷ AddSubtune ∷ []; undone = [] }

abbrev pub one_stands : History
one_stands = record { first = empty_song; standing = pattern_comes ∷ []; undone = AddSubtune ∷ [] }

abbrev pub none_stands : History
none_stands = record { first = empty_song; standing = []; undone = AddSubtune ∷ pattern_comes ∷ [] }

-- the song has what stands
abbrev pub HasWhatStands : Type 0
HasWhatStands =
    (song_of both_stand ≡ Ok (record empty_song {
      subtunes = void_subtune ∷ [];
      patterns = replicate 64 rest_row ∷ [];
    }))
    × (song_of one_stands ≡ Ok (record empty_song { patterns = replicate 64 rest_row ∷ [] }))
    × (song_of none_stands ≡ Ok empty_song)

-- the last edit goes first, and the one undone last comes back first
abbrev pub GoesBackAndForth : Type 0
GoesBackAndForth =
    (after_undo both_stand ≡ Some one_stands) × (after_undo one_stands ≡ Some none_stands)
    × (after_redo none_stands ≡ Some one_stands) × (after_redo one_stands ≡ Some both_stand)

abbrev pub EndsAtEachEnd : Type 0
EndsAtEachEnd = (after_undo none_stands ≡ None) × (after_redo both_stand ≡ None) × (after_undo (begun empty_song) ≡ None)

-- an edit lets go what could be redone; one that the song can't have is refused: there is no pattern 1
abbrev pub LetsGoAtAnEdit : Type 0
LetsGoAtAnEdit =
    (after_edit one_stands (SetLength 0 2)
    ≡ Ok (record { first = empty_song; standing = pattern_comes ∷ SetLength 0 2 ∷ []; undone = [] }))
    × (after_edit one_stands (SetLength 1 2) ≡ Err NoSuchPlace)
