-- A memory in which the registers of the second voice are written, and what writing them isn't.
use Rattle.std.specs.Prelude.{◌≡◌, ℕ, ◌+◌, ◌*◌, ◌%◌, true, false, List, [], ◌∷◌}
use Rattle.code_runs.specs.Runs.{put}
use Rattle.play_model.specs.State.{Playing}
use Rattle.play_model.specs.Frame.{voice_registers}
use Rattle.scopes.specs.Desk.{Desk, Layout}
use Rattle.scopes.specs.Meaning.{Ran, Stuck, each_one, ran}
use Rattle.player_memory.specs.declared.labels.TheConstants.{TICK}
use Rattle.player_memory.specs.Rooms.{IsRoom, MayUse}
use Rattle.player_memory.specs.Playing.{IsPlaying, IsAtVoice}
use Rattle.register_code.specs.RegisterBlock.{register_tree, Sounds}

-- the variables stand from $1000 on, all places may be read and written, and all code is kept
abbrev pub from_1000 : Layout
from_1000 = record {
  address = λ label. 0x1000 + label;
  pointer = 0xFC;
  holds = λ condition. true;
  open_turns = 255;
  may_read = λ place. true;
  may_write = λ place. true;
}

-- no code is kept that stands under a condition
abbrev pub bare : Layout
bare = record from_1000 { holds = λ condition. false }

-- the code of the second voice begins, and each place of memory has the low byte of its number
abbrev pub counting : Desk
counting = record {
  cpu = record {
    a = 0;
    x = 7;
    y = 0;
    sp = 0xFD;
    pc = 0;
    n = false;
    v = false;
    d = false;
    i = false;
    z = false;
    c = false;
  };
  at = λ place. place % 256;
}

-- the state that it holds: each byte is the label's number and 7
abbrev pub counted : Playing
counted = record {
  voice = record {
    plays = 0;
    row = 0;
    tick = 30;
    gate_timer = 31;
    instrument = 13;
    note = 33;
    new_note = 34;
    new_command = 49;
    new_param = 50;
    command = 51;
    param = 52;
    ad = 53;
    sr = 54;
    vib_time = 55;
    vib_delay = 71;
    wave = 71;
    gate = 7;
    freq = 74 * 256 + 73;
    last_note = 75;
    wave_ptr = 76;
    wave_time = 91;
    pulse_ptr = 92;
    pulse_time = 93;
    pulse = 15 * 256 + 94;
  };
  common = record {
    tempo_one = 1;
    tempo_two = 8;
    tempo_three = 15;
    funk_one = 111;
    funk_two = 112;
    filter_ptr = 90;
    filter_time = 97;
    filter_type = 104;
    filter_control = 105;
    cutoff = 106;
    volume = 107;
  };
}

-- without that code the pulse width is 0, no filter is set, and the volume is 15
abbrev pub bare_counted : Playing
bare_counted = record {
  voice = record counted.voice { pulse = 0 };
  common = record counted.common { filter_type = 0; filter_control = 0; cutoff = 0; volume = 15 };
}

abbrev pub written : Ran
written = ran each_one from_1000 register_tree counting

abbrev pub bare_written : Ran
bare_written = ran each_one bare register_tree counting

-- of the pulse width's high byte, $5F, the low four bits count; the waveform $47 is under the mask $07
abbrev pub worked_registers : List ℕ
worked_registers = 73 ∷ 74 ∷ 94 ∷ 0x0F ∷ 0x07 ∷ 53 ∷ 54 ∷ []

abbrev pub bare_registers : List ℕ
bare_registers = 73 ∷ 74 ∷ 0 ∷ 0 ∷ 0x07 ∷ 53 ∷ 54 ∷ []

-- All that the code asks for is there, and the registers are written; with the width 0 where the code of the pulse
-- table isn't kept.
pub record RegistersAreWorked : Type 0 where
  pub room : IsRoom from_1000 0
  pub uses : MayUse from_1000 0
  pub at_voice : IsAtVoice 1 counting
  pub plays : IsPlaying from_1000 1 counted counting.at
  pub registers : voice_registers counted.voice ≡ worked_registers
  pub sounds : Sounds 1 counting written worked_registers
  pub cost : written.cost ≡ 16
  pub bare_room : IsRoom bare 0
  pub bare_uses : MayUse bare 0
  pub bare_plays : IsPlaying bare 1 bare_counted counting.at
  pub bare_width : voice_registers bare_counted.voice ≡ bare_registers
  pub bare_sounds : Sounds 1 counting bare_written bare_registers
  pub bare_cost : bare_written.cost ≡ 14

-- another byte behind it
abbrev pub with_byte : ℕ → ℕ → Ran → Ran
with_byte place byte run = record run { desk = record run.desk { at = put run.desk.at place byte } }

-- It isn't to be stuck, to lose X, to have another byte in the first or the last of the registers or another width, to
-- write one of the voice before or of the voice behind, or to change a variable.
pub record OthersAreDenied : Type 0 where
  pub stuck : ¬ Sounds 1 counting (record written { outcome = Stuck }) worked_registers
  pub no_voice : ¬ Sounds 0 counting written worked_registers
  pub first : ¬ Sounds 1 counting (with_byte 0xD407 0 written) worked_registers
  pub last : ¬ Sounds 1 counting (with_byte 0xD40D 0 written) worked_registers
  pub width : ¬ Sounds 1 counting bare_written worked_registers
  pub before : ¬ Sounds 1 counting (with_byte 0xD406 0 written) worked_registers
  pub behind : ¬ Sounds 1 counting (with_byte 0xD40E 0 written) worked_registers
  pub variable : ¬ Sounds 1 counting (with_byte (from_1000.address TICK) 0 written) worked_registers
