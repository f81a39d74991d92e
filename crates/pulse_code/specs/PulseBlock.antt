-- The code of the pulse step, and what it does. This is the project's own player.
use Rattle.std.specs.Prelude.{◌≡◌, ◌≢◌, ℕ, ◌+◌, ◌<◌, ◌≤◌, true}
use Rattle.song_model.specs.declared.tables.TableName.TheVariants.{Pulse}
use Rattle.play_model.specs.LookUps.{LookUps}
use Rattle.play_model.specs.State.{Voice, Playing}
use Rattle.play_model.specs.PulseStep.{pulse_step}
use Rattle.scopes.specs.Desk.{Desk, Layout}
use Rattle.scopes.specs.Trees.{Tree, tree_of}
use Rattle.scopes.specs.Meaning.{each_one, ran}
use Rattle.player_memory.specs.declared.conditions.TheConstants.{PULSE_TABLE}
use Rattle.player_memory.specs.declared.labels.TheConstants.{PULSE_LEFTS, NEXT_PULSE_LEFTS, PULSE_RIGHTS}
use Rattle.player_memory.specs.Rooms.{IsRoom, MayUse}
use Rattle.player_memory.specs.Playing.{IsTable, IsPlaying, IsAtVoice, Plays, with_voice}
use Rattle.player_text.specs.declared.pulse.TheConstants.{PULSE}

abbrev pub pulse_tree : Tree
pulse_tree = tree_of PULSE.now

-- A voice's program is on a row of a table with so many rows, or has stopped. Behind the row is another, unless it
-- stops the program, and a row whose time runs doesn't. The width has 12 bits.
pub record IsOnRow (look : LookUps) (count : ℕ) (v : Voice) : Type 0 where
  pub row : v.pulse_ptr ≤ count
  pub next : v.pulse_ptr ≢ 0 → (look.row Pulse v.pulse_ptr).left ≢ 0 → v.pulse_ptr < count
  pub runs : v.pulse_ptr ≢ 0 → v.pulse_time ≢ 0 → (look.row Pulse v.pulse_ptr).left ≢ 0
  pub time : v.pulse_time < 256
  pub width : v.pulse < 4096

-- the pulse table stands in the lists, also under the label of the byte behind that before the first row; and the code
-- is kept where the voice has a program
pub record HasPulseTable (layout : Layout) (rows : ℕ) (at : ℕ → ℕ) (look : LookUps) (count : ℕ) : Type 0 where
  pub table : IsTable layout rows at PULSE_LEFTS PULSE_RIGHTS count (look.row Pulse)
  pub next : layout.address NEXT_PULSE_LEFTS ≡ layout.address PULSE_LEFTS + 1

-- In any memory that holds a voice that is playing, the code does the pulse step.
abbrev pub PulseBlockSteps : Type 0
PulseBlockSteps =
    (layout : Layout) (rows voice count : ℕ) (look : LookUps) (s : Playing) (desk : Desk) → IsRoom layout rows →
    MayUse layout rows → HasPulseTable layout rows desk.at look count → voice < 3 → IsAtVoice voice desk →
    IsPlaying layout voice s desk.at → IsOnRow look count s.voice →
    (s.voice.pulse_ptr ≢ 0 → layout.holds PULSE_TABLE ≡ true) →
    Plays layout rows voice desk (ran each_one layout pulse_tree desk) (with_voice (pulse_step look s.voice) s)
