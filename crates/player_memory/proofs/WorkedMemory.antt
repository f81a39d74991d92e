-- The variables, a voice in its bytes and a room, worked.
use Rattle.std.proofs.Common.{◌⊎◌, false, ◌+◌, true, nat_eq, refl, arith, inl, inr}
use Rattle.std.proofs.lemmas.Bool.{eqb-true, agree_below_at, both_ways}
use Rattle.player_memory.specs.declared.labels.TheConstants.{TICK, PULSE_HIGH, VIB_DELAY}
use Rattle.code_runs.specs.Runs.{put}
use Rattle.player_memory.specs.Labels.{is_own, is_shared}
use Rattle.player_memory.specs.WorkedMemory.{times, own_rows, shared_rows, is_of, counted, VariablesHaveRows}
use Rattle.play_model.specs.State.{start_common}
use Rattle.player_memory.specs.declared.labels.TheConstants.{NEW_COMMAND, NEW_PARAM, COMMAND, PARAM, VIB_TIME, LAST_NOTE}
use Rattle.player_memory.specs.declared.labels.TheConstants.{WAVE_TIME, PULSE_LOW, FILTER_TYPE, FILTER_CONTROL, CUTOFF}
use Rattle.player_memory.specs.declared.labels.TheConstants.{VOLUME, FUNK_ONE, FUNK_TWO, GATE_TIMER}
use Rattle.player_memory.specs.declared.conditions.TheConstants.{ROW_COMMAND, EFFECTS, SWINGS, INSTRUMENT_VIBRATO}
use Rattle.player_memory.specs.declared.conditions.TheConstants.{OWN_TIMER}
use Rattle.player_memory.specs.declared.conditions.TheConstants.{NOTE_DEPENDENT, WAVE_DELAY, PULSE_TABLE, FILTER_USED}
use Rattle.player_memory.specs.declared.conditions.TheConstants.{SET_VOLUME, FUNK_TEMPO}
use Rattle.player_memory.specs.WorkedMemory.{unwavering, still_bytes, all_but, its_shared, VoiceRowsAreWorked}
use Rattle.player_memory.specs.WorkedMemory.{CommonsAreWorked}
use Rattle.player_memory.specs.WorkedMemory.{everywhere, nowhere, sounding, its_bytes, VoicesAreWorked, at_1000}
use Rattle.player_memory.specs.WorkedMemory.{RoomsAreWorked}
use Rattle.player_memory.proofs.Standing.{bytes_stand, shared_bytes_stand}
use Rattle.player_memory.proofs.WorkedRooms.{IsLaid, IsOpen, room_in, uses_in, behind_slides, off_variables}

pub variables_have_rows : VariablesHaveRows
variables_have_rows = record {
  own = λ label few. eqb-true (times label own_rows) (counted (is_own label))
      (agree_below_at (λ l. nat_eq (times l own_rows) (counted (is_own l))) (λ _. true) 113 label refl few);
  shared = λ label few. eqb-true (times label shared_rows) (counted (is_shared label))
      (agree_below_at (λ l. nat_eq (times l shared_rows) (counted (is_shared l))) (λ _. true) 113 label refl few);
  owners = λ place few. eqb-true _ 1
      (agree_below_at (λ p. nat_eq (counted (is_of 0 p) + counted (is_of 1 p) + counted (is_of 2 p) + counted
      (is_shared p)) 1)
      (λ _. true) 113 place refl few);
}

pub voices_are_worked : VoicesAreWorked
voices_are_worked = record {
  stands = bytes_stand everywhere sounding 5 its_bytes refl;
  high_bits = bytes_stand everywhere sounding 5 (put its_bytes PULSE_HIGH 0xFA) refl;
  low_bits = λ s. let e = s.1.1.1.1.1.1.1.1.1.1.1.1.1.1.1.1.1.1.1.1.1.1.1.0.0 refl in omega (arith, e);
  note = λ s. let e = s.1.1.1.0 in omega (arith, e);
  param = λ s. let e = s.1.1.1.1.1.1.0 refl (λ z. omega (arith, z)) in omega (arith, e);
  no_command = bytes_stand everywhere
      (record sounding { new_command = 0 }) 5 (put (put its_bytes NEW_COMMAND 0) NEW_PARAM 0x4E) refl;
  delay = λ s. let e = s.1.1.1.1.1.1.1.1.1.1.1.1.0 refl in omega (arith, e);
  no_delay = bytes_stand everywhere (record sounding { vib_delay = 0 }) 5 (put its_bytes VIB_DELAY 255) refl;
  tempo = λ s. let e = s.1.1.1.1.1.1.1.1.1.1.1.1.1.1.1.1.1.1.1.1.1.1.1.1.0 in omega (arith, e);
  frequency = λ s. let e = s.1.1.1.1.1.1.1.1.1.1.1.1.1.1.1.0 in omega (arith, e);
  none = bytes_stand nowhere unwavering 5 still_bytes refl;
  always = λ s. let e = s.1.1.1.0 in omega (arith, e);
  low = λ s. let e = s.1.1.1.1.1.1.1.1.1.1.1.1.1.1.1.1.1.1.1.1.1.1.0.1 refl in omega (arith, e);
  high = λ s. let e = s.1.1.1.1.1.1.1.1.1.1.1.1.1.1.1.1.1.1.1.1.1.1.1.0.1 refl in omega (arith, e);
}

pub voice_rows_are_worked : VoiceRowsAreWorked
voice_rows_are_worked = record {
  new_command = record {
    there = λ s. let e = s.1.1.1.1.1.0 refl in omega (arith, e);
    not_there =
        bytes_stand (all_but ROW_COMMAND) unwavering 5 (put still_bytes NEW_COMMAND 4) refl;
  };
  new_param = record {
    there = λ s. let e = s.1.1.1.1.1.1.0 refl (λ z. omega (arith, z)) in omega (arith, e);
    not_there =
        bytes_stand (all_but ROW_COMMAND) unwavering 5 (put still_bytes NEW_PARAM 0x4E) refl;
  };
  command = record {
    there = λ s. let e = s.1.1.1.1.1.1.1.0 refl in omega (arith, e);
    not_there =
        bytes_stand (all_but EFFECTS) unwavering 5 (put still_bytes COMMAND 1) refl;
  };
  param = record {
    there = λ s. let e = s.1.1.1.1.1.1.1.1.0 refl in omega (arith, e);
    not_there =
        bytes_stand (all_but EFFECTS) unwavering 5 (put still_bytes PARAM 1) refl;
  };
  vib_time = record {
    there = λ s. let e = s.1.1.1.1.1.1.1.1.1.1.1.0 refl in omega (arith, e);
    not_there =
        bytes_stand (all_but SWINGS) unwavering 5 (put still_bytes VIB_TIME 1) refl;
  };
  vib_delay = record {
    there = λ s. let e = s.1.1.1.1.1.1.1.1.1.1.1.1.0 refl in omega (arith, e);
    not_there =
        bytes_stand (all_but INSTRUMENT_VIBRATO) unwavering 5 (put still_bytes VIB_DELAY 3) refl;
  };
  last_note = record {
    there = λ s. let e = s.1.1.1.1.1.1.1.1.1.1.1.1.1.1.1.1.1.0 refl in omega (arith, e);
    not_there =
        bytes_stand (all_but NOTE_DEPENDENT) unwavering 5 (put still_bytes LAST_NOTE 1) refl;
  };
  wave_time = record {
    there = λ s. let e = s.1.1.1.1.1.1.1.1.1.1.1.1.1.1.1.1.1.1.1.0 refl in omega (arith, e);
    not_there =
        bytes_stand (all_but WAVE_DELAY) unwavering 5 (put still_bytes WAVE_TIME 1) refl;
  };
  gate_timer = record {
    there = λ s. let e = s.1.0 refl in omega (arith, e);
    not_there =
        bytes_stand (all_but OWN_TIMER) unwavering 5 (put still_bytes GATE_TIMER 1) refl;
  };
  pulse_low = record {
    there = λ s. let e = s.1.1.1.1.1.1.1.1.1.1.1.1.1.1.1.1.1.1.1.1.1.1.0.0 refl in omega (arith, e);
    not_there =
        bytes_stand (all_but PULSE_TABLE) unwavering 5 (put still_bytes PULSE_LOW 1) refl;
  };
  pulse_high = record {
    there = λ s. let e = s.1.1.1.1.1.1.1.1.1.1.1.1.1.1.1.1.1.1.1.1.1.1.1.0.0 refl in omega (arith, e);
    not_there =
        bytes_stand (all_but PULSE_TABLE) unwavering 5 (put still_bytes PULSE_HIGH 1) refl;
  };
}

pub commons_are_worked : CommonsAreWorked
commons_are_worked = record {
  stands = shared_bytes_stand everywhere (start_common 1) its_shared refl;
  filter_type = record {
    there = λ s. let e = s.1.1.0.0 refl in omega (arith, e);
    not_there = shared_bytes_stand (all_but FILTER_USED) (start_common 1) (put its_shared FILTER_TYPE 1) refl;
  };
  filter_control = record {
    there = λ s. let e = s.1.1.1.0.0 refl in omega (arith, e);
    not_there = shared_bytes_stand (all_but FILTER_USED) (start_common 1) (put its_shared FILTER_CONTROL 1) refl;
  };
  cutoff = record {
    there = λ s. let e = s.1.1.1.1.0.0 refl in omega (arith, e);
    not_there = shared_bytes_stand (all_but FILTER_USED) (start_common 1) (put its_shared CUTOFF 1) refl;
  };
  volume = record {
    there = λ s. let e = s.1.1.1.1.1.0.0 refl in omega (arith, e);
    not_there = shared_bytes_stand (all_but SET_VOLUME) (start_common 1) (put its_shared VOLUME 14) refl;
  };
  funk_one = record {
    there = λ s. let e = s.1.1.1.1.1.1.0 refl in omega (arith, e);
    not_there = shared_bytes_stand (all_but FUNK_TEMPO) (start_common 1) (put its_shared FUNK_ONE 9) refl;
  };
  funk_two = record {
    there = λ s. let e = s.1.1.1.1.1.1.1.0 refl in omega (arith, e);
    not_there = shared_bytes_stand (all_but FUNK_TEMPO) (start_common 1) (put its_shared FUNK_TWO 6) refl;
  };
  always = λ s. let e = s.0 in omega (arith, e);
  no_type = λ s. let e = s.1.1.0.1 refl in omega (arith, e);
  no_control = λ s. let e = s.1.1.1.0.1 refl in omega (arith, e);
  no_cutoff = λ s. let e = s.1.1.1.1.0.1 refl in omega (arith, e);
  no_volume = λ s. let e = s.1.1.1.1.1.0.1 refl in omega (arith, e);
}

pub is_laid : IsLaid at_1000
is_laid = record { variables = refl; low = refl; high = refl; pointer = refl }

is_open : IsOpen at_1000
is_open = record { reads = refl; writes = refl; reads_slides = refl; writes_slides = refl; registers = refl }

-- one of two that are both wrong
pub neither : {P Q : Type 0} → ¬ P → ¬ Q → ¬ (P ⊎ Q)
neither p q (inl first) = p first
neither p q (inr second) = q second

pub rooms_are_worked : RoomsAreWorked
rooms_are_worked = record {
  room = room_in at_1000 is_laid;
  uses = uses_in at_1000 is_laid is_open;
  before = record {
    variables = off_variables at_1000 refl 0x1005 (inl (omega arith));
    slides_low = λ kept. inl (omega arith);
    slides_high = λ kept. inl (omega arith);
    low = λ e. omega (arith, e);
    high = λ e. omega (arith, e);
    registers = inl (omega arith);
  };
  behind = behind_slides at_1000 is_laid 0x1108 (omega arith) (omega arith);
  variable = λ away. away.variables 112 (omega arith) refl;
  slide = λ away. neither (λ l. omega (arith, l)) (λ l. omega (arith, l)) (away.slides_high refl);
  pointer = λ away. away.high refl;
  register = λ away. neither (λ l. omega (arith, l)) (λ l. omega (arith, l)) away.registers;
  overlap = λ room. neither (λ l. omega (arith, l)) (λ l. omega (arith, l)) (room.slides refl).apart;
  low = λ room. (let from = (room.slides refl).low.from in omega (arith, from));
  high = λ room. (let to = (room.slides refl).high.to in omega (arith, to));
  on_variable = λ room.
      neither (λ l. omega (arith, l)) (λ l. omega (arith, l)) ((room.slides refl).high.outside 112 (omega arith));
  variable_apart = λ room. (let same = room.variables.apart CUTOFF VOLUME (omega arith) (omega arith) refl in
      omega (arith, same));
  variable_low = λ room. (let from = room.variables.from VOLUME (omega arith) in omega (arith, from));
  variable_high = λ room. (let to = room.variables.to VOLUME (omega arith) in omega (arith, to));
  second_voice = λ room. (let behind = room.variables.voices TICK 1 refl (omega arith) in omega (arith, behind));
  third_voice = λ room. (let behind = room.variables.voices TICK 2 refl (omega arith) in omega (arith, behind));
  funk_apart = λ room. (let behind = room.variables.funk in omega (arith, behind));
  port = λ room. (let l = room.pointer_low in omega (arith, l));
  closed = λ uses. both_ways false refl (uses.registers 0 (omega arith));
}
