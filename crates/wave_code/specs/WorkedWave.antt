-- The code of the wave step, run by hand: each kind of row, and a program that jumps; and what the law on it asks, met
-- there.
use Rattle.std.specs.Prelude.{◌≡◌, ℕ, ◌+◌, Bool, true, false, nat_eq, nat_le, if◌then◌else◌}
use Rattle.code_runs.specs.Runs.{put}
use Rattle.song_model.specs.declared.tables.TableRow.{TableRow}
use Rattle.play_model.specs.LookUps.{LookUps}
use Rattle.play_model.specs.State.{Voice, start_voice}
use Rattle.scopes.specs.Desk.{Layout}
use Rattle.scopes.specs.Meaning.{Outcome, Done, Left, Ran, each_one, ran}
use Rattle.player_memory.specs.declared.conditions.TheConstants.{WAVE_DELAY}
use Rattle.player_memory.specs.declared.labels.TheConstants.{NOTE, WAVE, WAVE_POINTER, WAVE_TIME}
use Rattle.player_memory.specs.declared.labels.TheConstants.{WAVE_LEFTS, NEXT_WAVE_LEFTS, WAVE_RIGHTS, NEXT_WAVE_RIGHTS}
use Rattle.player_memory.specs.WorkedMemory.{at_1000}
use Rattle.player_memory.specs.WorkedPlays.{its_desk, with_variable}
use Rattle.player_text.specs.declared.joints.TheConstants.{PITCHED, COMMANDED}
use Rattle.wave_code.specs.WaveBlock.{wave_tree, HasWaveTable, IsOnWave, KeepsWave}

-- six rows, the left sides at $1120 and the right ones at $1130; the code is kept, or isn't
abbrev pub worked_layout : Bool → Layout
worked_layout kept = record at_1000 {
  address = λ label. if nat_eq label WAVE_LEFTS then 0x111F
      else if nat_eq label NEXT_WAVE_LEFTS then 0x1120
      else if nat_eq label WAVE_RIGHTS then 0x112F
      else if nat_eq label NEXT_WAVE_RIGHTS then 0x1130
      else at_1000.address label;
  holds = λ condition. kept;
}

-- waveform $41 at the voice's note; three frames of delay, and then note $C; waveform 1, where the note is kept;
-- command 5 with $A7; waveform $11 one half tone below the note; a jump to row 2
abbrev pub its_rows : ℕ → TableRow
its_rows number =
    if nat_eq number 1 then record { left = 0x41; right = 0 }
    else if nat_eq number 2 then record { left = 3; right = 0x8C }
    else if nat_eq number 3 then record { left = 0xE1; right = 0x80 }
    else if nat_eq number 4 then record { left = 0xF5; right = 0xA7 }
    else if nat_eq number 5 then record { left = 0x11; right = 0x7F }
    else record { left = 0xFF; right = 2 }

abbrev pub worked_rows : ℕ → ℕ
worked_rows =
    put (put (put (put (put (put (put
    (put (put (put (put (put (λ place. 0) 0x1120 0x41) 0x1130 0x80) 0x1121 0xE3) 0x1131
    0x0C) 0x1122 1) 0x1132 0) 0x1123 0xF5) 0x1133 0xA7) 0x1124 0x11) 0x1134 0xFF) 0x1125 0xFF) 0x1135 2

-- the third voice with note $10 and waveform $20, and its program on a row, of which so much time has passed
abbrev pub waved : Bool → ℕ → ℕ → Ran
waved kept row time =
    ran each_one (worked_layout kept) wave_tree
    (its_desk 14 false
    (with_variable (WAVE_POINTER + 14) row (with_variable (WAVE_TIME + 14) time
    (with_variable (NOTE + 14) 0x10 (with_variable (WAVE + 14) 0x20 worked_rows)))))

abbrev pub left_at : Ran → ℕ → ℕ
left_at run label = run.desk.at (0x1006 + label + 14)

-- where it goes, what it leaves, and in how many instructions
pub record IsWaved (run : Ran) (way : Outcome) (row time wave a y cost : ℕ) : Type 0 where
  pub way_is : run.outcome ≡ way
  pub row_is : left_at run WAVE_POINTER ≡ row
  pub time_is : left_at run WAVE_TIME ≡ time
  pub wave_is : left_at run WAVE ≡ wave
  pub a_is : run.desk.cpu.a ≡ a
  pub y_is : run.desk.cpu.y ≡ y
  pub cost_is : run.cost ≡ cost

pub record WavesAreWorked : Type 0 where
  pub sets : IsWaved (waved true 1 0) (Left PITCHED) 2 0 0x41 0x10 1 19
  pub waits : IsWaved (waved true 2 1) Done 2 2 0x20 3 2 12
  pub is_over : IsWaved (waved true 2 3) (Left PITCHED) 3 0 0x20 0x0C 2 24
  pub keeps_note : IsWaved (waved true 3 0) Done 4 0 1 0 3 15
  pub commands : IsWaved (waved true 4 0) (Left COMMANDED) 5 0 0x20 0xF5 4 14
  pub jumps : IsWaved (waved true 5 0) (Left PITCHED) 2 0 0x11 0x0F 5 22
  pub has_none : IsWaved (waved true 0 7) Done 0 7 0x20 0 0 2
  -- code that isn't kept does nothing
  pub not_kept : IsWaved (waved false 1 0) Done 1 0 0x20 0 0 0

-- ---- what the law asks is met there

abbrev pub looked_up : LookUps → LookUps
looked_up look = record look { row = λ name number. its_rows number }

-- the voice's program is on a row, of which so much time has passed
abbrev pub on : ℕ → ℕ → Voice
on row time = record start_voice { wave_ptr = row; wave_time = time }

-- the table in this memory
abbrev pub HasRows : LookUps → (ℕ → ℕ) → Type 0
HasRows look at = HasWaveTable (worked_layout true) 4 at (looked_up look) 6

pub record RowsAreWorked (look : LookUps) : Type 0 where
  pub table : HasRows look worked_rows
  pub sets : IsOnWave (looked_up look) 6 (on 1 0)
  pub waits : IsOnWave (looked_up look) 6 (on 2 3)
  pub has_none : IsOnWave (looked_up look) 6 (on 0 7)
  pub kept : KeepsWave (worked_layout true) (looked_up look) (on 4 0)
  -- a jump is no row of a program, nor is one with none behind it; and no more time has passed than a row has
  pub jump : ¬ IsOnWave (looked_up look) 7 (on 6 0)
  pub none_behind : ¬ IsOnWave (looked_up look) 5 (on 5 0)
  pub long : ¬ IsOnWave (looked_up look) 6 (on 2 4)
  pub no_delay : ¬ IsOnWave (looked_up look) 6 (on 1 1)
  pub not_kept : ¬ KeepsWave (worked_layout false) (looked_up look) (on 1 0)
  pub commands_not_kept :
      ¬ KeepsWave (record at_1000 { holds = λ condition. nat_eq condition 22 }) (looked_up look) (on 4 0)
  pub delays_not_kept :
      ¬ KeepsWave (record at_1000 { holds = λ condition. nat_eq condition 22 }) (looked_up look) (on 2 0)
  pub special_not_kept :
      ¬ KeepsWave (record at_1000 { holds = λ condition. nat_le condition WAVE_DELAY }) (looked_up look) (on 2 0)
  -- a delay that stands as it is isn't in the image's form, nor a note that does, nor a command's parameter that
  -- doesn't
  pub delay : ¬ HasRows look (put worked_rows 0x1121 3)
  pub low : ¬ HasRows look (put worked_rows 0x1122 0xE1)
  pub note : ¬ HasRows look (put worked_rows 0x1130 0)
  pub param : ¬ HasRows look (put worked_rows 0x1133 0x27)
  pub label : ¬ HasWaveTable (record (worked_layout true) {
    address = λ label. if nat_eq label NEXT_WAVE_LEFTS then 0x1121 else (worked_layout true).address label;
  }) 4 worked_rows (looked_up look) 6
  pub right_label : ¬ HasWaveTable (record (worked_layout true) {
    address = λ label. if nat_eq label NEXT_WAVE_RIGHTS then 0x1131 else (worked_layout true).address label;
  }) 4 worked_rows (looked_up look) 6
