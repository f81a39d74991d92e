-- The variables one by one, a voice in its bytes, and a room in memory, worked by hand; and what is none.
use Rattle.std.specs.Prelude.{◌≡◌, ℕ, ◌+◌, ◌-◌, ◌*◌, ◌<◌, ◌&&◌, ◌||◌, Bool, true, false, not}
use Rattle.std.specs.Prelude.{nat_eq, nat_le, nat_lt, if◌then◌else◌, List, [], ◌∷◌, ◌++◌}
use Rattle.code_runs.specs.Runs.{put}
use Rattle.play_model.specs.State.{Voice, start_voice, start_common}
use Rattle.scopes.specs.Desk.{Layout}
use Rattle.player_memory.specs.declared.conditions.TheConstants.{ROW_COMMAND, EFFECTS, SWINGS, INSTRUMENT_VIBRATO}
use Rattle.player_memory.specs.declared.conditions.TheConstants.{NOTE_DEPENDENT, WAVE_DELAY, PULSE_TABLE, FILTER_USED}
use Rattle.player_memory.specs.declared.conditions.TheConstants.{SET_VOLUME, FUNK_TEMPO, OWN_TIMER}
use Rattle.player_memory.specs.declared.labels.TheConstants.{COMMAND, PARAM, VIB_TIME, LAST_NOTE, WAVE_TIME, VOLUME}
use Rattle.player_memory.specs.declared.labels.TheConstants.{FUNK_ONE, FUNK_TWO, FILTER_POINTER, FILTER_TYPE}
use Rattle.player_memory.specs.declared.labels.TheConstants.{FILTER_CONTROL, CUTOFF, GATE_TIMER}
use Rattle.player_memory.specs.declared.labels.TheConstants.{VARIABLES, TICK, INSTRUMENT, NOTE, GATE, VIB_DELAY}
use Rattle.player_memory.specs.declared.labels.TheConstants.{TEMPO, FREQ_LOW, FREQ_HIGH}
use Rattle.player_memory.specs.declared.labels.TheConstants.{NEW_COMMAND, NEW_PARAM, PULSE_LOW, PULSE_HIGH, LENT}
use Rattle.player_memory.specs.declared.labels.TheConstants.{KEPT_COMMAND, KEPT_PARAM}
use Rattle.player_memory.specs.declared.labels.TheConstants.{SLIDES_LOW, SLIDES_HIGH}
use Rattle.player_memory.specs.declared.variables.TheConstants.{VOICE_BYTES, COMMON_BYTES, SONG_BYTES}
use Rattle.player_memory.specs.Labels.{is_own, is_shared}
use Rattle.player_memory.specs.Variables.{VoiceBytesStand, CommonBytesStand}
use Rattle.player_memory.specs.Rooms.{IsRoom, IsElsewhere, MayUse}

-- ---- each variable has one row

abbrev pub times : ℕ → List ℕ → ℕ
times label [] = 0
times label (first ∷ others) = (if nat_eq first label then 1 else 0) + times label others

abbrev pub labels_of : {X Y : Type 0} → List (ℕ × X × Y) → List ℕ
labels_of [] = []
labels_of (row ∷ rows) = row.0 ∷ labels_of rows

-- a voice's byte holds a part of its state, or says where it is in its song; one that no voice owns holds a part of the
-- state that voices share, or is left by one part of the code for a later one
abbrev pub own_rows : List ℕ
own_rows = labels_of VOICE_BYTES ++ SONG_BYTES

abbrev pub shared_rows : List ℕ
shared_rows = labels_of COMMON_BYTES ++ (LENT ∷ KEPT_COMMAND ∷ KEPT_PARAM ∷ [])

-- whether the byte at a place among the variables is that voice's
abbrev pub is_of : ℕ → ℕ → Bool
is_of voice place = nat_le (7 * voice) place && is_own (place - 7 * voice)

abbrev pub counted : Bool → ℕ
counted true = 1
counted false = 0

pub record VariablesHaveRows : Type 0 where
  pub own : (label : ℕ) → label < VARIABLES → times label own_rows ≡ counted (is_own label)
  pub shared : (label : ℕ) → label < VARIABLES → times label shared_rows ≡ counted (is_shared label)
  -- each of the 113 has one owner
  pub owners : (place : ℕ) → place < VARIABLES →
      counted (is_of 0 place) + counted (is_of 1 place) + counted (is_of 2 place) + counted (is_shared place) ≡ 1

-- ---- a voice's bytes

-- a voice as it begins, but with a note below C-0, a command, a frequency and a pulse width
abbrev pub sounding : Voice
sounding = record start_voice {
  note = 0xF1;
  new_command = 5;
  new_param = 0x4F;
  freq = 0x1234;
  pulse = 0xA5C;
  vib_delay = 3;
}

abbrev pub its_bytes : ℕ → ℕ
its_bytes =
    put (put (put (put (put (put (put (put (put (put (put (put (λ label. 0) TICK 1) INSTRUMENT 1) NOTE 0x71) GATE 0xFE)
    NEW_COMMAND 5) NEW_PARAM 0x4F) FREQ_LOW 0x34) FREQ_HIGH 0x12) PULSE_LOW 0x5C) PULSE_HIGH 0x0A) VIB_DELAY 2) TEMPO 5

-- where the lines of each condition are kept, and where none are
abbrev pub everywhere : ℕ → Bool
everywhere condition = true

abbrev pub nowhere : ℕ → Bool
nowhere condition = false

-- a condition alone, and all but one
abbrev pub alone : ℕ → ℕ → Bool
alone condition other = nat_eq other condition

abbrev pub all_but : ℕ → ℕ → Bool
all_but condition other = not (nat_eq other condition)

-- the same voice with the width 0
abbrev pub unwavering : Voice
unwavering = record sounding { pulse = 0 }

abbrev pub still_bytes : ℕ → ℕ
still_bytes = put (put its_bytes PULSE_LOW 0) PULSE_HIGH 0

pub record VoicesAreWorked : Type 0 where
  pub stands : VoiceBytesStand everywhere sounding 5 its_bytes
  -- the upper four bits of the width's high byte may be any
  pub high_bits : VoiceBytesStand everywhere sounding 5 (put its_bytes PULSE_HIGH 0xFA)
  pub low_bits : ¬ VoiceBytesStand everywhere sounding 5 (put its_bytes PULSE_HIGH 0x0B)
  -- a note is kept mod 128
  pub note : ¬ VoiceBytesStand everywhere sounding 5 (put its_bytes NOTE 0xF1)
  -- a parameter counts where there is a command
  pub param : ¬ VoiceBytesStand everywhere sounding 5 (put its_bytes NEW_PARAM 0x4E)
  pub no_command : VoiceBytesStand everywhere (record sounding { new_command = 0 }) 5
      (put (put its_bytes NEW_COMMAND 0) NEW_PARAM 0x4E)
  -- a delay is kept less one, and none as 255
  pub delay : ¬ VoiceBytesStand everywhere sounding 5 (put its_bytes VIB_DELAY 3)
  pub no_delay : VoiceBytesStand everywhere (record sounding { vib_delay = 0 }) 5 (put its_bytes VIB_DELAY 255)
  pub tempo : ¬ VoiceBytesStand everywhere sounding 6 its_bytes
  pub frequency : ¬ VoiceBytesStand everywhere (record sounding { freq = 0x3412 }) 5 its_bytes
  -- where no lines are kept a byte that always holds something does, and the width is 0: its low and its high byte
  pub none : VoiceBytesStand nowhere unwavering 5 still_bytes
  pub always : ¬ VoiceBytesStand nowhere unwavering 5 (put still_bytes NOTE 0)
  pub low : ¬ VoiceBytesStand nowhere (record sounding { pulse = 0x5C }) 5 its_bytes
  pub high : ¬ VoiceBytesStand nowhere (record sounding { pulse = 0xA00 }) 5 its_bytes

-- A byte stands under its row's condition and under no other: a wrong one is refused where that condition alone holds,
-- and is no matter where all others do.
pub record StandsUnder (condition label wrong : ℕ) : Type 0 where
  pub there : ¬ VoiceBytesStand (alone condition) unwavering 5 (put still_bytes label wrong)
  pub not_there : VoiceBytesStand (all_but condition) unwavering 5 (put still_bytes label wrong)

pub record VoiceRowsAreWorked : Type 0 where
  pub new_command : StandsUnder ROW_COMMAND NEW_COMMAND 4
  pub new_param : StandsUnder ROW_COMMAND NEW_PARAM 0x4E
  pub command : StandsUnder EFFECTS COMMAND 1
  pub param : StandsUnder EFFECTS PARAM 1
  pub vib_time : StandsUnder SWINGS VIB_TIME 1
  pub vib_delay : StandsUnder INSTRUMENT_VIBRATO VIB_DELAY 3
  pub last_note : StandsUnder NOTE_DEPENDENT LAST_NOTE 1
  pub wave_time : StandsUnder WAVE_DELAY WAVE_TIME 1
  pub gate_timer : StandsUnder OWN_TIMER GATE_TIMER 1
  pub pulse_low : StandsUnder PULSE_TABLE PULSE_LOW 1
  pub pulse_high : StandsUnder PULSE_TABLE PULSE_HIGH 1

-- ---- what the voices share

abbrev pub its_shared : ℕ → ℕ
its_shared = put (put (put (λ label. 0) VOLUME 15) FUNK_ONE 8) FUNK_TWO 5

pub record SharedUnder (condition label wrong : ℕ) : Type 0 where
  pub there : ¬ CommonBytesStand (alone condition) (start_common 1) (put its_shared label wrong)
  pub not_there : CommonBytesStand (all_but condition) (start_common 1) (put its_shared label wrong)

pub record CommonsAreWorked : Type 0 where
  pub stands : CommonBytesStand everywhere (start_common 1) its_shared
  pub filter_type : SharedUnder FILTER_USED FILTER_TYPE 1
  pub filter_control : SharedUnder FILTER_USED FILTER_CONTROL 1
  pub cutoff : SharedUnder FILTER_USED CUTOFF 1
  pub volume : SharedUnder SET_VOLUME VOLUME 14
  pub funk_one : SharedUnder FUNK_TEMPO FUNK_ONE 9
  pub funk_two : SharedUnder FUNK_TEMPO FUNK_TWO 6
  -- where no lines are kept the filter's are 0, and the volume is 15
  pub always : ¬ CommonBytesStand nowhere (start_common 1) (put its_shared FILTER_POINTER 1)
  pub no_type : ¬ CommonBytesStand nowhere (record (start_common 1) { filter_type = 0x10 }) its_shared
  pub no_control : ¬ CommonBytesStand nowhere (record (start_common 1) { filter_control = 1 }) its_shared
  pub no_cutoff : ¬ CommonBytesStand nowhere (record (start_common 1) { cutoff = 1 }) its_shared
  pub no_volume : ¬ CommonBytesStand nowhere (record (start_common 1) { volume = 14 }) its_shared

-- ---- a room

-- the variables at $1006, two lists of slides of 4 bytes behind them, and the pointer at $FC
abbrev pub at_1000 : Layout
at_1000 = record {
  address = λ label. if nat_eq label SLIDES_LOW then 0x1100 else if nat_eq label SLIDES_HIGH then 0x1104 else 0x1006 +
      label;
  pointer = 0xFC;
  holds = everywhere;
  open_turns = 255;
  may_read = λ place. nat_le 0x1000 place && nat_lt place 0x1200;
  may_write = λ place. nat_le 0x1006 place && nat_lt place 0x1108 || nat_le 0xD400 place && nat_le place 0xD418;
}

-- with a list elsewhere
abbrev pub moved : ℕ → ℕ → Layout
moved list place = record at_1000 { address = λ label. if nat_eq label list then place else at_1000.address label }

pub record RoomsAreWorked : Type 0 where
  pub room : IsRoom at_1000 4
  pub uses : MayUse at_1000 4
  pub before : IsElsewhere at_1000 4 0x1005
  pub behind : IsElsewhere at_1000 4 0x1108
  pub variable : ¬ IsElsewhere at_1000 4 0x1076
  pub slide : ¬ IsElsewhere at_1000 4 0x1107
  pub pointer : ¬ IsElsewhere at_1000 4 0xFD
  pub register : ¬ IsElsewhere at_1000 4 0xD418
  -- lists that overlap are no room, nor such as are below $0800, end over $D000 or stand on a variable
  pub overlap : ¬ IsRoom at_1000 5
  pub low : ¬ IsRoom (moved SLIDES_LOW 0x07FF) 4
  pub high : ¬ IsRoom (moved SLIDES_HIGH 0xCFFD) 4
  pub on_variable : ¬ IsRoom (moved SLIDES_HIGH 0x1076) 4
  -- two variables at one place, one on the stack or at $D000, voices' bytes that aren't 7 and 14 behind, and a second
  -- funk tempo that isn't behind the first
  pub variable_apart : ¬ IsRoom (moved VOLUME 0x1070) 4
  pub variable_low : ¬ IsRoom (moved VOLUME 0x01FF) 4
  pub variable_high : ¬ IsRoom (moved VOLUME 0xD000) 4
  pub second_voice : ¬ IsRoom (moved (TICK + 7) 0x0FFF) 4
  pub third_voice : ¬ IsRoom (moved (TICK + 14) 0x0FFF) 4
  pub funk_apart : ¬ IsRoom (moved FUNK_TWO 0x1077) 4
  pub port : ¬ IsRoom (record at_1000 { pointer = 1 }) 4
  -- where a register may not be written the room may not be used
  pub closed : ¬ MayUse (record at_1000 { may_write = λ place. nat_le 0x1006 place && nat_lt place 0x1108 }) 4
