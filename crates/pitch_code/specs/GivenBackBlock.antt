-- The code of a lent command that goes back, and what it does. This is the project's own player.
use Rattle.std.specs.Prelude.{◌≡◌, ◌≢◌, ℕ, ◌+◌, ◌*◌, ◌<◌, true}
use Rattle.play_model.specs.State.{Playing}
use Rattle.scopes.specs.Desk.{Desk, Layout}
use Rattle.scopes.specs.Trees.{Tree, tree_of}
use Rattle.scopes.specs.Meaning.{Ran, Done, each_one, ran}
use Rattle.player_memory.specs.declared.conditions.TheConstants.{WAVE_COMMAND}
use Rattle.player_memory.specs.declared.labels.TheConstants.{COMMAND, PARAM, LENT, KEPT_COMMAND, KEPT_PARAM}
use Rattle.player_memory.specs.Rooms.{IsRoom, MayUse}
use Rattle.player_memory.specs.declared.variables.TheConstants.{SONG_BYTES}
use Rattle.player_memory.specs.Playing.{own_at, shared_at, IsPlaying, IsAtVoice, AreSame, OthersStay, AllSlidesStay}
use Rattle.player_memory.specs.Playing.{Plays}
use Rattle.player_text.specs.declared.pitch.TheConstants.{GIVEN_BACK}

abbrev pub given_back_tree : Tree
given_back_tree = tree_of GIVEN_BACK.now

-- A block has come to its end with the kept command and parameter as the voice's own, and no command lent. It has left
-- every other place of memory.
pub record GivesBack (layout : Layout) (voice : ℕ) (before : Desk) (run : Ran) : Type 0 where
  pub ends : run.outcome ≡ Done
  pub at_voice : IsAtVoice voice run.desk
  pub command : own_at layout run.desk.at voice COMMAND ≡ shared_at layout before.at KEPT_COMMAND
  pub param : own_at layout run.desk.at voice PARAM ≡ shared_at layout before.at KEPT_PARAM
  pub lent : shared_at layout run.desk.at LENT ≡ 0
  pub leaves : (place : ℕ) → place ≢ layout.address (COMMAND + 7 * voice) →
      place ≢ layout.address (PARAM + 7 * voice) →
      place ≢ layout.address LENT → run.desk.at place ≡ before.at place

-- it has come to its end, and left every place of memory
pub record GivesNothing (voice : ℕ) (before : Desk) (run : Ran) : Type 0 where
  pub ends : run.outcome ≡ Done
  pub at_voice : IsAtVoice voice run.desk
  pub leaves : (place : ℕ) → run.desk.at place ≡ before.at place

-- the first where a command is lent, for which the code is kept, and the second where none is
pub record GivesBackWhatIsLent (layout : Layout) (voice : ℕ) (desk : Desk) (run : Ran) : Type 0 where
  pub lent : shared_at layout desk.at LENT ≡ 1 → layout.holds WAVE_COMMAND ≡ true → GivesBack layout voice desk run
  pub none : shared_at layout desk.at LENT ≡ 0 → GivesNothing voice desk run

-- In any memory, the code gives back what is lent.
abbrev pub GivenBackBlockGives : Type 0
GivenBackBlockGives =
    (layout : Layout) (rows voice : ℕ) (desk : Desk) → IsRoom layout rows → MayUse layout rows → voice < 3 →
    IsAtVoice voice desk → GivesBackWhatIsLent layout voice desk (ran each_one layout given_back_tree desk)

-- ---- of a voice that is playing

-- the voice with its own command and parameter again
abbrev pub with_command : ℕ → ℕ → Playing → Playing
with_command command param s = record s { voice = record s.voice { command = command; param = param } }

-- The block has come to its end with a voice in this state, and no command lent. Where the voice is in its song, the
-- other voices, the registers, the slides and what is elsewhere it has left.
pub record PlaysOwn (layout : Layout) (rows voice : ℕ) (before : Desk) (run : Ran) (s : Playing) : Type 0 where
  pub ends : run.outcome ≡ Done
  pub at_voice : IsAtVoice voice run.desk
  pub plays : IsPlaying layout voice s run.desk.at
  pub song : AreSame SONG_BYTES (own_at layout run.desk.at voice) (own_at layout before.at voice)
  pub lent : shared_at layout run.desk.at LENT ≡ 0
  pub stays : OthersStay layout rows voice before.at run.desk.at
  pub slides : AllSlidesStay layout rows run.desk.at before.at

-- with the kept command where one is lent, and as it was where none is
pub record PlaysOwnAgain (layout : Layout) (rows voice : ℕ) (desk : Desk) (run : Ran) (s : Playing) : Type 0 where
  pub lent : shared_at layout desk.at LENT ≡ 1 → layout.holds WAVE_COMMAND ≡ true →
      PlaysOwn layout rows voice desk run
      (with_command (shared_at layout desk.at KEPT_COMMAND) (shared_at layout desk.at KEPT_PARAM) s)
  pub none : shared_at layout desk.at LENT ≡ 0 → Plays layout rows voice desk run s

-- In any memory that holds a voice that is playing, the code gives the voice its own command back.
abbrev pub GivenBackBlockPlays : Type 0
GivenBackBlockPlays =
    (layout : Layout) (rows voice : ℕ) (s : Playing) (desk : Desk) → IsRoom layout rows → MayUse layout rows →
    voice < 3 → IsAtVoice voice desk → IsPlaying layout voice s desk.at →
    PlaysOwnAgain layout rows voice desk (ran each_one layout given_back_tree desk) s
