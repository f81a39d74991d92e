-- What a text makes of a song, and what is told where it makes nothing of it.
use Rattle.std.specs.Prelude.{◌≡◌, ℕ, List, [], ◌∷◌, Ok, Err, codes}
use Rattle.song_model.specs.declared.songs.Song.{Song}
use Rattle.edit_history.specs.History.{History, begun, song_of}
use Rattle.edit_script.specs.declared.commands.Command.{Command}
use Rattle.edit_script.specs.declared.kinds.RunKind.{RunKind}
use Rattle.edit_script.specs.declared.kinds.RunKind.TheVariants.{NoSuchPlace, OutOfLimit, BadValue, NothingToUndo}
use Rattle.edit_script.specs.declared.kinds.RunKind.TheVariants.{NothingToRedo, NoMemory}
use Rattle.edit_script.specs.Scripts.{IsScript, IsFirstBadLine}
use Rattle.edit_script.specs.Runs.{Stop, fold_of}

-- the text is a script, all of whose commands can be done, and makes of the song another
pub record IsEditedBy (text : List ℕ) (song after : Song) : Type 0 where
  pub commands : List Command
  pub is_script : IsScript text commands
  pub history : History
  pub done : fold_of (begun song) commands ≡ Ok history
  pub after_is : song_of history ≡ Ok after

-- why a command can't be done
abbrev pub kind_words : RunKind → List ℕ
kind_words NoSuchPlace = codes "no such place"
kind_words OutOfLimit = codes "over limit"
kind_words BadValue = codes "bad value"
kind_words NothingToUndo = codes "nothing to undo"
kind_words NothingToRedo = codes "nothing to redo"
kind_words NoMemory = codes "no memory"

abbrev pub bad_line_words : List ℕ
bad_line_words = codes "bad line"

-- what may be told of a line
abbrev pub failure_words : List (List ℕ)
failure_words =
    bad_line_words ∷ kind_words NoSuchPlace ∷ kind_words OutOfLimit ∷ kind_words BadValue ∷ kind_words NothingToUndo
    ∷ kind_words NothingToRedo ∷ []

-- the text is no script, or a command of it can't be done: the line, and what is told of it
pub data FailsAt (text : List ℕ) (song : Song) (line : ℕ) (words : List ℕ) : Type 0 where
  no_script : IsFirstBadLine text line → words ≡ bad_line_words → FailsAt text song line words
  not_done : (commands : List Command) (stop : Stop) → IsScript text commands →
      fold_of (begun song) commands ≡ Err stop → line ≡ stop.line → words ≡ kind_words stop.kind →
      FailsAt text song line words
