-- What the lines in front of the parts find, in a memory that holds a state. This is the project's own player.
use Rattle.std.specs.Prelude.{◌≡◌, ◌≢◌, ℕ, ◌+◌, ◌<◌, ◌≤◌, ◌⊎◌, true, false, ◌++◌}
use Rattle.song_model.specs.declared.orders.Order.{Order}
use Rattle.play_model.specs.State.{Playing}
use Rattle.scopes.specs.Desk.{Desk, Layout}
use Rattle.scopes.specs.Trees.{tree_of}
use Rattle.scopes.specs.Meaning.{Ran, Done, each_one, ran}
use Rattle.player_memory.specs.declared.conditions.TheConstants.{FUNK_TEMPO, WAVE_COMMAND, INSTRUMENT_VIBRATO}
use Rattle.player_memory.specs.declared.conditions.TheConstants.{NOTE_DEPENDENT, TRANSPOSES, REPEATS, ROW_COMMAND}
use Rattle.player_memory.specs.declared.conditions.TheConstants.{ROW_ONCE, EFFECTS}
use Rattle.player_memory.specs.declared.labels.TheConstants.{WAVE_LEFTS, WAVE_RIGHTS}
use Rattle.player_memory.specs.declared.labels.TheConstants.{REPEAT}
use Rattle.player_memory.specs.Forms.{stored_left}
use Rattle.player_memory.specs.Fetching.{WalkStands}
use Rattle.player_memory.specs.Playing.{IsListed}
use Rattle.player_text.specs.declared.tick.TheConstants.{FRAME_COUNTED, COMMAND_BEGUN, COMMAND_TAKEN}
use Rattle.player_text.specs.declared.wave.TheConstants.{WAVE_STEP}
use Rattle.player_text.specs.declared.effect.TheConstants.{EFFECT_BEGUN, COMMAND_LENT}
use Rattle.player_text.specs.declared.slide.TheConstants.{SPEED_STEP}
use Rattle.player_text.specs.declared.fetch.TheConstants.{ENTRY_READ}
use Rattle.idle_parts.specs.Idle.{HoldsVoice, met}

-- ---- the laws aren't empty

-- a block comes to a part where its own rule is due: the tick falls below 0, no command runs where one may, or the row
-- of the wave program isn't a waveform
pub record FrontsEnd (layout : Layout) (rows voice : ℕ) (s : Playing) (desk : Desk) : Type 0 where
  pub tempo : s.voice.tick ≡ 0 → (met layout FUNK_TEMPO FRAME_COUNTED.now desk).outcome ≡ Done
  pub vibrato : layout.holds EFFECTS ≡ true → s.voice.command ≡ 0 →
      (met layout INSTRUMENT_VIBRATO EFFECT_BEGUN.now desk).outcome ≡ Done
  pub command : (left : ℕ) → s.voice.wave_ptr ≢ 0 → IsListed layout rows desk.at WAVE_LEFTS s.voice.wave_ptr left →
      0xE0 ≤ left → (met layout WAVE_COMMAND WAVE_STEP.now desk).outcome ≡ Done

-- a left side of the wave table that is no command and no jump stands below $F0
abbrev pub StoredIsLow : Type 0
StoredIsLow = (left : ℕ) → left < 0xF0 → stored_left left < 0xF0

-- ---- what is found in registers

-- lines have come to their end with these bytes in A and Y, and have left each byte, X and the decimal flag
pub record Finds (a y : ℕ) (run : Ran) (before : Desk) : Type 0 where
  pub ends : run.outcome ≡ Done
  pub a_is : run.desk.cpu.a ≡ a
  pub y_is : run.desk.cpu.y ≡ y
  pub stays : (place : ℕ) → run.desk.at place ≡ before.at place
  pub x : run.desk.cpu.x ≡ before.cpu.x
  pub decimal : run.desk.cpu.d ≡ before.cpu.d

-- The commands of a row find the row's command, 5 up, in Y, and its parameter in A, where the lines are kept that come
-- to them. Each of them keeps both where it is another one.
abbrev pub CommandsAreFound : Type 0
CommandsAreFound =
    (layout : Layout) (rows voice : ℕ) (s : Playing) (desk : Desk) → HoldsVoice layout rows voice s desk →
    layout.holds ROW_COMMAND ≡ true → layout.holds ROW_ONCE ≡ true → 5 ≤ s.voice.new_command →
    Finds s.voice.new_param s.voice.new_command
    (ran each_one layout (tree_of (COMMAND_BEGUN.now ++ COMMAND_TAKEN.now)) desk) desk

-- the slides find the command that runs in A, as it was, and the voice's parameter in Y
abbrev pub EffectsAreFound : Type 0
EffectsAreFound =
    (layout : Layout) (rows voice : ℕ) (s : Playing) (desk : Desk) → HoldsVoice layout rows voice s desk →
    layout.holds EFFECTS ≡ true → layout.holds NOTE_DEPENDENT ≡ false →
    Finds desk.cpu.a s.voice.param (ran each_one layout (tree_of SPEED_STEP.now) desk) desk

-- the transpose finds the note in A, and the carry off
pub record FindsNote (layout : Layout) (desk : Desk) : Type 0 where
  pub finds : Finds desk.cpu.a desk.cpu.y (met layout TRANSPOSES ENTRY_READ.now desk) desk
  pub carry : (met layout TRANSPOSES ENTRY_READ.now desk).desk.cpu.c ≡ false

abbrev pub NotesAreFound : Type 0
NotesAreFound = (layout : Layout) (desk : Desk) → 0x60 ≤ desk.cpu.a → desk.cpu.a < 0xBD → FindsNote layout desk

-- The commands of the wave table find the command, 5 up, in Y and the row's right side in A; the pointer's low byte has
-- the command, too.
pub record FindsLent (layout : Layout) (command right : ℕ) (run : Ran) (before : Desk) : Type 0 where
  pub ends : run.outcome ≡ Done
  pub a_is : run.desk.cpu.a ≡ right
  pub y_is : run.desk.cpu.y ≡ command
  pub stays : (place : ℕ) → place ≢ layout.pointer → run.desk.at place ≡ before.at place

abbrev pub LentAreFound : Type 0
LentAreFound =
    (layout : Layout) (rows : ℕ) (desk : Desk) (command right : ℕ) → 5 ≤ command → command < 16 →
    desk.cpu.a ≡ 0xF0 + command → IsListed layout rows desk.at WAVE_RIGHTS desk.cpu.y right →
    FindsLent layout command right (ran each_one layout (tree_of COMMAND_LENT.now) desk) desk

-- ---- what the walk finds

-- The walk stands in front of a play (`WalkStands`): no plays are left of the pattern before, or it repeats that
-- pattern, for which the lines are kept.
abbrev pub PlaysAreFound : Type 0
PlaysAreFound =
    (layout : Layout) (order : Order) (n : ℕ) (own : ℕ → ℕ) → WalkStands layout order n own →
    (own REPEAT ≡ 0) ⊎ ((own REPEAT ≢ 0) × (layout.holds REPEATS ≡ true))
