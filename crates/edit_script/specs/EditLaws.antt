-- What a reader may rely on where a text edits a song.
use Rattle.std.specs.Prelude.{◌≡◌, ◌⊎◌, ℕ, List, [], Ok, Contains}
use Rattle.song_model.specs.declared.songs.Song.{Song}
use Rattle.edit_history.specs.History.{History, begun}
use Rattle.edit_script.specs.declared.commands.Command.{Command}
use Rattle.edit_script.specs.Scripts.{IsScript}
use Rattle.edit_script.specs.Runs.{fold_of}
use Rattle.edit_script.specs.Edited.{IsEditedBy, FailsAt, failure_words}

-- A text makes one song of a song, or fails at one line for one of six causes: one of both, and never both.
pub record EditsInOneWay : Type 0 where
  pub one_song : (text : List ℕ) (song a b : Song) → IsEditedBy text song a → IsEditedBy text song b → a ≡ b
  pub one_failure : (text : List ℕ) (song : Song) (line other : ℕ) (words others : List ℕ) →
      FailsAt text song line words → FailsAt text song other others → (line ≡ other) × (words ≡ others)
  pub one_of_six : (text : List ℕ) (song : Song) (line : ℕ) (words : List ℕ) → FailsAt text song line words →
      Contains failure_words words
  pub one_of_both : (text : List ℕ) (song : Song) → ((after : Song) × IsEditedBy text song after)
      ⊎ ((line : ℕ) × (words : List ℕ) × FailsAt text song line words)
  pub never_both : (text : List ℕ) (song after : Song) (line : ℕ) (words : List ℕ) → IsEditedBy text song after →
      ¬ FailsAt text song line words

-- where no edit stands at the end, the text makes of the song itself
abbrev pub LeavesWhatItUndoes : Type 0
LeavesWhatItUndoes =
    (text : List ℕ) (song : Song) (commands : List Command) (history : History) → IsScript text commands →
    fold_of (begun song) commands ≡ Ok history → history.standing ≡ [] → IsEditedBy text song song
