-- The code of a command of the wave table. This is the project's own player.
use Rattle.std.specs.Prelude.{◌≡◌, ℕ, ◌+◌, ◌<◌, ◌≤◌, ◌⊎◌, true}
use Rattle.std.specs.List.{flat_map}
use Rattle.play_model.specs.LookUps.{LookUps}
use Rattle.play_model.specs.State.{Playing}
use Rattle.play_model.specs.WaveStep.{program_moved, wave_command}
use Rattle.scopes.specs.Desk.{Desk, Layout}
use Rattle.scopes.specs.Trees.{Tree, tree_of}
use Rattle.scopes.specs.Meaning.{Left, Ran, each_one, ran}
use Rattle.player_memory.specs.declared.conditions.TheConstants.{WAVE_COMMAND, EFFECTS}
use Rattle.player_memory.specs.declared.labels.TheConstants.{WAVE_RIGHTS, LENT, KEPT_COMMAND, KEPT_PARAM}
use Rattle.player_memory.specs.declared.variables.TheConstants.{SONG_BYTES}
use Rattle.player_memory.specs.Commands.{condition_of_both, AreKept}
use Rattle.player_memory.specs.FactLines.{KeepsShared}
use Rattle.player_memory.specs.Rooms.{IsRoom, MayUse}
use Rattle.player_memory.specs.Playing.{IsListed, IsPlaying, IsAtVoice, Plays, own_at, shared_at, AreSame}
use Rattle.player_memory.specs.Playing.{OthersStay, AllSlidesStay}
use Rattle.player_text.specs.declared.joints.TheConstants.{RUNNING, EFFECTED}
use Rattle.player_text.specs.declared.effect.TheConstants.{COMMAND_ROW}
use Rattle.player_memory.specs.Playing.{there}

abbrev pub command_row_tree : Tree
command_row_tree = tree_of (flat_map (λ piece. piece.now) COMMAND_ROW.now)

-- the code of commands of the wave table is kept, and of a command that is done once its lines, with what they have in
-- common with others
pub record KeepsOnce (layout : Layout) (command : ℕ) : Type 0 where
  pub commands : layout.holds WAVE_COMMAND ≡ true
  pub lines : AreKept layout (condition_of_both command)
  pub shared : KeepsShared layout

-- a command is lent, with its parameter, in the place of the voice's own
abbrev pub lent_out : ℕ → ℕ → Playing → Playing
lent_out command param s = record s { voice = record s.voice { command = command; param = param } }

-- a command that isn't lent: 0, which does nothing, and those from 5 on
abbrev pub IsOnce : ℕ → Type 0
IsOnce command = (command ≡ 0) ⊎ (5 ≤ command)

-- It doesn't matter to such a command whether the program goes on before it or behind it.
abbrev pub CommandsLeaveTheProgram : Type 0
CommandsLeaveTheProgram =
    (look : LookUps) (command param row : ℕ) (s : Playing) → IsOnce command →
    program_moved look row (wave_command look command param s)
    ≡ wave_command look command param (program_moved look row s)

-- A is a row's command, Y the row, and its parameter stands in the list; no command is lent
pub record IsAtCommand (layout : Layout) (rows : ℕ) (desk : Desk) (number command param : ℕ) : Type 0 where
  pub a : desk.cpu.a ≡ 0xF0 + command
  pub y : desk.cpu.y ≡ number
  pub few : command < 15
  pub listed : IsListed layout rows desk.at WAVE_RIGHTS number param
  pub byte : param < 256
  pub lent : shared_at layout desk.at LENT ≡ 0

-- the block leaves to where the effect is done, with what the command leaves
pub record Commands (layout : Layout) (rows voice : ℕ) (before : Desk) (run : Ran) (s : Playing) : Type 0 where
  pub way : run.outcome ≡ Left EFFECTED
  pub plays : Plays layout rows voice before (there run) s

-- In any memory that holds a voice that is playing, the code does a command of the wave table that isn't lent.
abbrev pub CommandBlockDoes : Type 0
CommandBlockDoes =
    (layout : Layout) (rows voice number command param : ℕ) (look : LookUps) (s : Playing) (desk : Desk) →
    IsRoom layout rows → MayUse layout rows → voice < 3 → IsAtVoice voice desk → IsPlaying layout voice s desk.at →
    IsAtCommand layout rows desk number command param → IsOnce command → KeepsOnce layout command →
    Commands layout rows voice desk (ran each_one layout command_row_tree desk) (wave_command look command param s)

-- The block has left to where the command runs, with it in A: the voice has it, with its parameter, and its own ones
-- are kept meanwhile. Where the voice is in its song, the other voices, the registers, the slides and what is elsewhere
-- it has left.
pub record Lends (layout : Layout) (rows voice : ℕ) (before : Desk) (run : Ran) (command param : ℕ) (s : Playing)
    : Type 0 where
  pub way : run.outcome ≡ Left RUNNING
  pub a : run.desk.cpu.a ≡ command
  pub at_voice : IsAtVoice voice run.desk
  pub plays : IsPlaying layout voice (lent_out command param s) run.desk.at
  pub song : AreSame SONG_BYTES (own_at layout run.desk.at voice) (own_at layout before.at voice)
  pub lent : shared_at layout run.desk.at LENT ≡ 1
  pub kept_command : shared_at layout run.desk.at KEPT_COMMAND ≡ s.voice.command
  pub kept_param : shared_at layout run.desk.at KEPT_PARAM ≡ s.voice.param
  pub stays : OthersStay layout rows voice before.at run.desk.at
  pub slides : AllSlidesStay layout rows run.desk.at before.at

-- In any memory that holds a voice that is playing, the code lends one of the commands 1 to 4 to the effect step, whose
-- code is kept.
abbrev pub CommandBlockLends : Type 0
CommandBlockLends =
    (layout : Layout) (rows voice number command param : ℕ) (s : Playing) (desk : Desk) →
    IsRoom layout rows → MayUse layout rows → voice < 3 → IsAtVoice voice desk → IsPlaying layout voice s desk.at →
    IsAtCommand layout rows desk number command param → 1 ≤ command → command ≤ 4 →
    layout.holds WAVE_COMMAND ≡ true → layout.holds EFFECTS ≡ true →
    Lends layout rows voice desk (ran each_one layout command_row_tree desk) command param s
