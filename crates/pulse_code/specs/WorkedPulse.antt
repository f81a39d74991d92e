-- The code of the pulse step, run by hand: rows that set the width, that move it, that stop, and that are behind a
-- jump; and what the law on it asks, met there.
use Rattle.std.specs.Prelude.{◌≡◌, ℕ, ◌+◌, Bool, true, false, nat_eq, if◌then◌else◌}
use Rattle.code_runs.specs.Runs.{put}
use Rattle.play_model.specs.LookUps.{LookUps}
use Rattle.play_model.specs.State.{Voice, start_voice}
use Rattle.scopes.specs.Desk.{Layout}
use Rattle.scopes.specs.Meaning.{Ran, Done, each_one, ran}
use Rattle.player_memory.specs.declared.labels.TheConstants.{PULSE_POINTER, PULSE_TIME, PULSE_LOW, PULSE_HIGH}
use Rattle.player_memory.specs.declared.labels.TheConstants.{PULSE_LEFTS, NEXT_PULSE_LEFTS, PULSE_RIGHTS}
use Rattle.player_memory.specs.WorkedMemory.{at_1000}
use Rattle.player_memory.specs.WorkedPlays.{its_desk, with_variable}
use Rattle.pulse_code.specs.PulseBlock.{pulse_tree, IsOnRow, HasPulseTable}

-- five rows, the left sides at $1120 and the right ones at $1130; the code is kept, or isn't
abbrev pub worked_layout : Bool → Layout
worked_layout kept = record at_1000 {
  address = λ label. if nat_eq label PULSE_LEFTS then 0x111F
      else if nat_eq label NEXT_PULSE_LEFTS then 0x1120
      else if nat_eq label PULSE_RIGHTS then 0x112F
      else at_1000.address label;
  holds = λ condition. kept;
}

-- $88 $40 sets the width to $840; $02 $30 adds $30 for two frames; $01 $F0 takes $10 away, and behind it $FF $01 goes
-- to row 1; $00 stops
abbrev pub worked_rows : ℕ → ℕ
worked_rows =
    put (put (put (put (put (put (put (put (put (λ place. 0) 0x1120 0x88) 0x1130 0x40) 0x1121 2) 0x1131 0x30) 0x1122 1)
    0x1132 0xF0) 0x1123 0xFF) 0x1133 1) 0x1124 0

-- the third voice with its program on a row, that has so much time, and a width of $A5F8 of which the upper four bits
-- don't count
abbrev pub pulsed : Bool → ℕ → ℕ → Ran
pulsed kept row time =
    ran each_one (worked_layout kept) pulse_tree
    (its_desk 14 false
    (with_variable (PULSE_POINTER + 14) row (with_variable (PULSE_TIME + 14) time
    (with_variable (PULSE_LOW + 14) 0xF8 (with_variable (PULSE_HIGH + 14) 0xA5 worked_rows)))))

abbrev pub left_at : Ran → ℕ → ℕ
left_at run label = run.desk.at (0x1006 + label + 14)

-- what it leaves, and in how many instructions
pub record IsPulsed (run : Ran) (row time low high cost : ℕ) : Type 0 where
  pub ends : run.outcome ≡ Done
  pub row_is : left_at run PULSE_POINTER ≡ row
  pub time_is : left_at run PULSE_TIME ≡ time
  pub low_is : left_at run PULSE_LOW ≡ low
  pub high_is : left_at run PULSE_HIGH ≡ high
  pub cost_is : run.cost ≡ cost

pub record PulsesAreWorked : Type 0 where
  pub sets : IsPulsed (pulsed true 1 0) 2 0 0x40 0x88 17
  -- the width rises over a page
  pub begins : IsPulsed (pulsed true 2 0) 2 1 0x28 0xA6 18
  pub goes_on : IsPulsed (pulsed true 2 1) 3 0 0x28 0xA6 20
  -- it falls, and the program jumps
  pub jumps : IsPulsed (pulsed true 3 0) 1 0 0xE8 0xA5 23
  pub stops : IsPulsed (pulsed true 5 0) 5 0 0xF8 0xA5 6
  pub has_none : IsPulsed (pulsed true 0 7) 0 7 0xF8 0xA5 2
  -- code that isn't kept does nothing
  pub not_kept : IsPulsed (pulsed false 1 0) 1 0 0xF8 0xA5 0

-- ---- what the law asks is met there

abbrev pub looked_up : LookUps → LookUps
looked_up look = record look {
  row = λ name number. record { left = worked_rows (0x111F + number); right = worked_rows (0x112F + number) };
}

-- the voice's program is on a row, with so much time
abbrev pub on : ℕ → ℕ → Voice
on row time = record start_voice { pulse_ptr = row; pulse_time = time; pulse = 0x5F8 }

pub record RowsAreWorked (look : LookUps) : Type 0 where
  pub table : HasPulseTable (worked_layout true) 4 worked_rows (looked_up look) 5
  pub runs : IsOnRow (looked_up look) 5 (on 3 1)
  pub stops : IsOnRow (looked_up look) 5 (on 5 0)
  pub has_none : IsOnRow (looked_up look) 5 (on 0 7)
  pub sixth : ¬ IsOnRow (looked_up look) 5 (on 6 0)
  pub none_behind : ¬ IsOnRow (looked_up look) 3 (on 3 0)
  pub stop_runs : ¬ IsOnRow (looked_up look) 5 (on 5 1)
  pub wide : ¬ IsOnRow (looked_up look) 5 (record (on 5 0) { pulse = 4096 })
  pub long : ¬ IsOnRow (looked_up look) 5 (on 3 256)
  -- a table with another row isn't the one in the lists
  pub other : ¬ HasPulseTable (worked_layout true) 4 (put worked_rows 0x1133 2) (looked_up look) 5
  pub label : ¬ HasPulseTable (record (worked_layout true) {
    address = λ label. if nat_eq label NEXT_PULSE_LEFTS then 0x1121 else (worked_layout true).address label;
  }) 4 worked_rows (looked_up look) 5
