-- The code of the wave step, and what it does. This is the project's own player.
use Rattle.std.specs.Prelude.{◌≡◌, ◌≢◌, ℕ, ◌+◌, ◌<◌, ◌≤◌, true}
use Rattle.std.specs.Prelude.{if◌then◌else◌}
use Rattle.song_model.specs.declared.tables.TableRow.{TableRow}
use Rattle.song_model.specs.declared.tables.TableName.TheVariants.{Wave}
use Rattle.play_model.specs.LookUps.{LookUps}
use Rattle.play_model.specs.State.{Voice, Playing}
use Rattle.play_model.specs.WaveStep.{wave_step, left_done, program_moved, is_wave_command, wave_note, with_note}
use Rattle.scopes.specs.Desk.{Desk, Layout}
use Rattle.scopes.specs.Trees.{Tree, tree_of}
use Rattle.scopes.specs.Meaning.{Outcome, Done, Left, Ran, each_one, ran}
use Rattle.player_memory.specs.declared.conditions.TheConstants.{WAVE_TABLE, WAVE_COMMAND, WAVE_DELAY}
use Rattle.player_memory.specs.declared.labels.TheConstants.{WAVE_LEFTS, NEXT_WAVE_LEFTS, WAVE_RIGHTS, NEXT_WAVE_RIGHTS}
use Rattle.player_memory.specs.FactLines.{KeepsShared}
use Rattle.player_memory.specs.Rooms.{IsRoom, MayUse}
use Rattle.player_memory.specs.Forms.{stored}
use Rattle.player_memory.specs.Playing.{IsTable, IsPlaying, IsAtVoice, Plays, there}
use Rattle.player_text.specs.declared.joints.TheConstants.{PITCHED, COMMANDED}
use Rattle.player_text.specs.declared.wave.TheConstants.{WAVE_STEP}

abbrev pub wave_tree : Tree
wave_tree = tree_of WAVE_STEP.now

-- ---- the wave table in the lists

-- The wave table stands in the lists in the form in which it is stored, also under the labels of the bytes behind
-- those before the first row; its right sides are bytes.
pub record HasWaveTable (layout : Layout) (rows : ℕ) (at : ℕ → ℕ) (look : LookUps) (count : ℕ) : Type 0 where
  pub table : IsTable layout rows at WAVE_LEFTS WAVE_RIGHTS count (λ number. stored (look.row Wave number))
  pub bytes : (number : ℕ) → 1 ≤ number → number ≤ count → (look.row Wave number).right < 256
  pub next_left : layout.address NEXT_WAVE_LEFTS ≡ layout.address WAVE_LEFTS + 1
  pub next_right : layout.address NEXT_WAVE_RIGHTS ≡ layout.address WAVE_RIGHTS + 1

-- ---- the voice

-- the row of the voice's wave program
abbrev pub its_row : LookUps → Voice → TableRow
its_row look v = look.row Wave v.wave_ptr

-- A voice's program is on a row of a table with so many rows, or has stopped. The row is no jump, and behind it is
-- another. Of a delay no more time has passed than it has, and of another row none.
pub record IsOnWave (look : LookUps) (count : ℕ) (v : Voice) : Type 0 where
  pub next : v.wave_ptr ≢ 0 → v.wave_ptr < count
  pub no_jump : v.wave_ptr ≢ 0 → (its_row look v).left ≢ 0xFF
  pub delay : v.wave_ptr ≢ 0 → (its_row look v).left < 0x10 → v.wave_time ≤ (its_row look v).left
  pub time : v.wave_ptr ≢ 0 → 0x10 ≤ (its_row look v).left → v.wave_time ≡ 0

-- the code is kept where the voice has a program, that of commands and that of delays where its row is one, and with
-- each of these what both have in common
pub record KeepsWave (layout : Layout) (look : LookUps) (v : Voice) : Type 0 where
  pub table : v.wave_ptr ≢ 0 → layout.holds WAVE_TABLE ≡ true
  pub command : v.wave_ptr ≢ 0 → is_wave_command (its_row look v) ≡ true → layout.holds WAVE_COMMAND ≡ true
  pub delay : v.wave_ptr ≢ 0 → (its_row look v).left < 0x10 → layout.holds WAVE_DELAY ≡ true
  pub shared : KeepsShared layout

-- ---- what it does

-- the program has gone on, and the row's left side is done, but for a command
abbrev pub begun : LookUps → Playing → Playing
begun look s =
    program_moved look s.voice.wave_ptr
    (if is_wave_command (its_row look s.voice) then s else left_done look (its_row look s.voice) s)

-- the block's end is come to where the effect may run, one way out where the row is a command, and the other where it
-- has a note
abbrev pub way_of : LookUps → Playing → Outcome
way_of look s =
    if (wave_step look s).effect then Done
    else if is_wave_command (its_row look s.voice) then Left COMMANDED
    else Left PITCHED

-- what the wave step leaves at the block's end; on a way out the row's command is still to do, or its note to set
abbrev pub state_of : LookUps → Playing → Playing
state_of look s = if (wave_step look s).effect then (wave_step look s).playing else begun look s

-- the note in A is that of the row's right side, which the wave step sets
pub record HasNote (look : LookUps) (s : Playing) (a : ℕ) : Type 0 where
  pub number : a ≡ wave_note (its_row look s.voice).right s.voice.note
  pub sets : (wave_step look s).playing ≡ record (begun look s) { voice = with_note a (begun look s).voice }

-- the command is in A, and its row in Y
pub record HasCommand (look : LookUps) (s : Playing) (a y : ℕ) : Type 0 where
  pub left : a ≡ (its_row look s.voice).left
  pub row : y ≡ s.voice.wave_ptr

-- it takes that way, and holds there what belongs there
pub record Waves (layout : Layout) (rows voice : ℕ) (before : Desk) (run : Ran) (look : LookUps) (s : Playing) : Type 0
  where
    pub way : run.outcome ≡ way_of look s
    pub plays : Plays layout rows voice before (there run) (state_of look s)
    pub note : way_of look s ≡ Left PITCHED → HasNote look s run.desk.cpu.a
    pub command : way_of look s ≡ Left COMMANDED → HasCommand look s run.desk.cpu.a run.desk.cpu.y

-- In any memory that holds a voice that is playing, the code does the wave step.
abbrev pub WaveBlockSteps : Type 0
WaveBlockSteps =
    (layout : Layout) (rows voice count : ℕ) (look : LookUps) (s : Playing) (desk : Desk) → IsRoom layout rows →
    MayUse layout rows → HasWaveTable layout rows desk.at look count → voice < 3 → IsAtVoice voice desk →
    IsPlaying layout voice s desk.at → IsOnWave look count s.voice → KeepsWave layout look s.voice →
    Waves layout rows voice desk (ran each_one layout wave_tree desk) look s
