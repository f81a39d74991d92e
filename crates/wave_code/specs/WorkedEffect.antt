-- The code that tells which effect runs, and that of a command of the wave table, run by hand.
use Rattle.std.specs.Prelude.{◌≡◌, ℕ, ◌+◌, ◌||◌, Bool, true, false, nat_eq, not}
use Rattle.code_runs.specs.Runs.{put}
use Rattle.play_model.specs.State.{Voice, Playing, start_voice, start_common}
use Rattle.scopes.specs.Desk.{Desk, Layout}
use Rattle.scopes.specs.Meaning.{Outcome, Left, Ran, each_one, ran}
use Rattle.player_memory.specs.declared.conditions.TheConstants.{SKIP_EFFECTS, INSTRUMENT_VIBRATO, WAVE_COMMAND}
use Rattle.player_memory.specs.declared.conditions.TheConstants.{SPECIAL_ROW, SET_FILTER_CONTROL}
use Rattle.player_memory.specs.declared.labels.TheConstants.{TICK, COMMAND, PARAM, VIB_DELAY, AD, LENT, KEPT_COMMAND}
use Rattle.player_memory.specs.declared.labels.TheConstants.{KEPT_PARAM, REST}
use Rattle.player_memory.specs.Rooms.{IsRoom, MayUse}
use Rattle.player_memory.specs.Playing.{IsPlaying, IsAtVoice}
use Rattle.player_memory.specs.WorkedMemory.{at_1000}
use Rattle.player_memory.specs.WorkedPlays.{its_desk, with_variable}
use Rattle.player_text.specs.declared.joints.TheConstants.{RUNNING, EFFECTED}
use Rattle.wave_code.specs.EffectBlock.{effect_begun_tree, left_out, running, HasEffect, KeepsEffect}
use Rattle.wave_code.specs.CommandBlock.{command_row_tree, IsOnce, KeepsOnce, IsAtCommand, Lends}
use Rattle.wave_code.specs.WorkedWave.{worked_layout, worked_rows}

-- ---- which effect runs

-- all code is kept, but where effects aren't left out that for it isn't
abbrev pub effect_layout : Bool → Layout
effect_layout true = record at_1000 { holds = λ condition. true }
effect_layout false = record at_1000 { holds = λ condition. not (nat_eq condition SKIP_EFFECTS) }

-- the third voice with this tick, command, parameter, and vibrato's delay, which stands there less one
abbrev pub effected_in : Layout → ℕ → ℕ → ℕ → ℕ → Ran
effected_in layout tick command param delay =
    ran each_one layout effect_begun_tree
    (its_desk 14 false
    (with_variable (TICK + 14) tick (with_variable (COMMAND + 14) command (with_variable (PARAM + 14) param
    (with_variable (VIB_DELAY + 14) delay (λ place. 0))))))

abbrev pub effected : Bool → ℕ → ℕ → ℕ → ℕ → Ran
effected skips tick command param delay = effected_in (effect_layout skips) tick command param delay

-- where it goes, with what in A, the delay that is left, and in how many instructions
pub record IsEffected (run : Ran) (way : Outcome) (a delay cost : ℕ) : Type 0 where
  pub way_is : run.outcome ≡ way
  pub a_is : run.desk.cpu.a ≡ a
  pub delay_is : run.desk.at (0x1006 + (VIB_DELAY + 14)) ≡ delay
  pub cost_is : run.cost ≡ cost

pub record EffectsAreWorked : Type 0 where
  pub own : IsEffected (effected false 0 3 7 1) (Left RUNNING) 3 1 3
  pub skipped : IsEffected (effected true 0 3 7 1) (Left EFFECTED) 3 1 5
  pub later : IsEffected (effected true 2 3 7 1) (Left RUNNING) 3 1 5
  -- an instrument's vibrato begins, waits, never begins, and there is none
  pub begins : IsEffected (effected false 0 0 7 0) (Left RUNNING) 4 0 9
  pub waits : IsEffected (effected false 0 0 7 2) (Left EFFECTED) 7 1 10
  pub never : IsEffected (effected false 0 0 7 255) (Left EFFECTED) 7 255 9
  pub none : IsEffected (effected false 0 0 0 0) (Left EFFECTED) 0 0 5
  -- nor does it wait where effects are left out
  pub rests : IsEffected (effected true 0 0 7 2) (Left EFFECTED) 0 2 7
  -- code that isn't kept has none run
  pub not_kept : IsEffected (effected_in (record at_1000 { holds = λ condition. false }) 0 0 7 2) (Left EFFECTED) 0 2 1

-- a voice with this command, parameter and delay
abbrev pub voiced : ℕ → ℕ → ℕ → Voice
voiced command param delay = record start_voice { tick = 0; command = command; param = param; vib_delay = delay }

pub record RunningIsWorked : Type 0 where
  pub own : running (voiced 3 7 0) ≡ 3
  pub vibrato : running (voiced 0 7 1) ≡ 4
  pub waits : running (voiced 0 7 2) ≡ 0
  pub never : running (voiced 0 7 0) ≡ 0
  pub none : running (voiced 0 0 1) ≡ 0
  pub out : left_out true (voiced 3 7 0) ≡ true
  pub later : left_out true (record (voiced 3 7 0) { tick = 2 }) ≡ false
  pub without : left_out false (voiced 3 7 0) ≡ false
  pub has : HasEffect (voiced 4 7 255)
  pub command : ¬ HasEffect (voiced 5 7 0)
  pub delay : ¬ HasEffect (voiced 0 7 256)
  pub keeps : KeepsEffect (effect_layout false) (voiced 0 7 2)
  pub not_kept : ¬ KeepsEffect (record at_1000 { holds = λ condition. false }) (voiced 0 7 2)
  -- nor is the code of effects left out where a command runs, or where that of an instrument's vibrato is kept
  pub effects_not_kept : ¬ KeepsEffect (record at_1000 { holds = λ condition. false }) (voiced 3 7 0)
  pub shared_not_kept :
      ¬ KeepsEffect (record at_1000 { holds = λ condition. nat_eq condition INSTRUMENT_VIBRATO }) (voiced 0 0 0)

-- ---- a command of the wave table

-- the third voice with command 2 and parameter 9, and a command in A, whose row of the wave table is the fourth
abbrev pub at_row : ℕ → Desk
at_row a =
    let desk = its_desk 14 false (with_variable (COMMAND + 14) 2 (with_variable (PARAM + 14) 9 worked_rows)) in
    record desk { cpu = record desk.cpu { a = a; y = 4 } }

abbrev pub commanded : Bool → ℕ → Ran
commanded kept a = ran each_one (worked_layout kept) command_row_tree (at_row a)

abbrev pub shared_left : Ran → ℕ → ℕ
shared_left run label = run.desk.at (0x1006 + label)

pub record IsCommanded (run : Ran) (way : Outcome) (command param ad lent cost : ℕ) : Type 0 where
  pub way_is : run.outcome ≡ way
  pub command_is : shared_left run (COMMAND + 14) ≡ command
  pub param_is : shared_left run (PARAM + 14) ≡ param
  pub ad_is : shared_left run (AD + 14) ≡ ad
  pub lent_is : shared_left run LENT ≡ lent
  pub cost_is : run.cost ≡ cost

-- the code of commands of the wave table is kept, with what they have in common with delays, and that of one condition
-- more
abbrev pub commands_and : ℕ → Layout
commands_and other = record at_1000 {
  holds = λ condition. nat_eq condition WAVE_COMMAND || nat_eq condition SPECIAL_ROW || nat_eq condition other;
}

pub record CommandsAreWorked : Type 0 where
  pub sets : IsCommanded (commanded true 0xF5) (Left EFFECTED) 2 9 0xA7 0 25
  pub lends : IsCommanded (commanded true 0xF1) (Left RUNNING) 1 0xA7 0 1 15
  pub kept_command : shared_left (commanded true 0xF1) KEPT_COMMAND ≡ 2
  pub kept_param : shared_left (commanded true 0xF1) KEPT_PARAM ≡ 9
  pub working : (commanded true 0xF1).desk.cpu.a ≡ 1
  -- commands 0, 8 and $E do nothing
  pub zero : IsCommanded (commanded true 0xF0) (Left EFFECTED) 2 9 0 0 3
  pub eight : IsCommanded (commanded true 0xF8) (Left EFFECTED) 2 9 0 0 24
  pub last : IsCommanded (commanded true 0xFE) (Left EFFECTED) 2 9 0 0 24
  pub lent_one : ¬ IsOnce 4
  pub kept : KeepsOnce (worked_layout true) 5
  pub kept_alone : KeepsOnce (commands_and WAVE_COMMAND) 8
  pub not_kept : ¬ KeepsOnce (worked_layout false) 0
  pub lines_not_kept : ¬ KeepsOnce (commands_and WAVE_COMMAND) 5
  -- nor is what all that sets the filter has in common left out
  pub shared_not_kept : ¬ KeepsOnce (commands_and SET_FILTER_CONTROL) 0xB

-- ---- what the law on a lent command asks is met there

-- the state in which all bytes are 0 but the command and the parameter; a vibrato's delay of 1 stands as 0
abbrev pub all_rests : Playing
all_rests = record {
  voice = record start_voice { tick = 0; instrument = 0; gate = 0; command = 2; param = 9; vib_delay = 1 };
  common = record (start_common 0) { volume = 0 };
}

-- command 1 is lent, with the row's parameter, and this is left
abbrev pub LendsTo : Ran → Type 0
LendsTo run = Lends (worked_layout true) 4 2 (at_row 0xF1) run 1 0xA7 all_rests

abbrev pub lent_run : Ran
lent_run = commanded true 0xF1

-- with another byte of a variable, or elsewhere
abbrev pub with_byte : ℕ → ℕ → Ran
with_byte place byte = record lent_run { desk = record lent_run.desk { at = put lent_run.desk.at place byte } }

abbrev pub with_other : ℕ → ℕ → Ran
with_other label byte = with_byte (0x1006 + label) byte

pub record LendingIsWorked : Type 0 where
  pub room : IsRoom (worked_layout true) 4
  pub uses : MayUse (worked_layout true) 4
  pub at_voice : IsAtVoice 2 (at_row 0xF1)
  pub playing : IsPlaying (worked_layout true) 2 all_rests (at_row 0xF1).at
  pub at_command : IsAtCommand (worked_layout true) 4 (at_row 0xF1) 4 1 0xA7
  pub lends : LendsTo lent_run
  -- it doesn't stand in another row, nor has it another number, nor is one lent already
  pub row : ¬ IsAtCommand (worked_layout true) 4 (at_row 0xF1) 3 1 0xA7
  pub number : ¬ IsAtCommand (worked_layout true) 4 (at_row 0xF2) 4 1 0xA7
  pub already : ¬ IsAtCommand (worked_layout true) 4 lent_run.desk 4 1 0xA7
  -- it isn't done by going on elsewhere, nor with another number in A, or another voice's number in X
  pub effected : ¬ LendsTo (record lent_run { outcome = Left EFFECTED })
  pub other_a : ¬ LendsTo (record lent_run { desk = record lent_run.desk { cpu = record lent_run.desk.cpu { a = 2 } } })
  pub other_x : ¬ LendsTo (record lent_run { desk = record lent_run.desk { cpu = record lent_run.desk.cpu { x = 7 } } })
  -- the voice has the command, and not its own, which is kept
  pub own : ¬ LendsTo (with_other (COMMAND + 14) 2)
  pub param : ¬ LendsTo (with_other (PARAM + 14) 9)
  pub not_lent : ¬ LendsTo (with_other LENT 0)
  pub kept_command : ¬ LendsTo (with_other KEPT_COMMAND 1)
  pub kept_param : ¬ LendsTo (with_other KEPT_PARAM 0xA7)
  -- all else is left
  pub song : ¬ LendsTo (with_other (REST + 14) 1)
  pub other : ¬ LendsTo (with_other TICK 1)
  pub register : ¬ LendsTo (with_byte 0xD404 1)
  pub elsewhere : ¬ LendsTo (with_byte 0x2000 1)
  pub slide : ¬ LendsTo (with_byte 0x1107 1)
