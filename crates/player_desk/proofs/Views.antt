-- The rows of the table of variables, each by its name.
use Rattle.std.proofs.Common.{◌≡◌, ◌≢◌, ℕ, ◌+◌, ◌*◌, ◌/◌, ◌%◌, ◌<◌, ◌∙◌, Bool, true, false}
use Rattle.play_model.specs.State.{Voice, Common, Playing}
use Rattle.play_model.specs.TickStep.{tempo_of}
use Rattle.player_memory.specs.declared.labels.TheConstants.{TICK, GATE_TIMER, INSTRUMENT, NOTE, NEW_NOTE}
use Rattle.player_memory.specs.declared.labels.TheConstants.{NEW_COMMAND, NEW_PARAM, COMMAND, PARAM, AD, SR, VIB_TIME}
use Rattle.player_memory.specs.declared.labels.TheConstants.{VIB_DELAY, WAVE, GATE, FREQ_LOW, FREQ_HIGH, LAST_NOTE}
use Rattle.player_memory.specs.declared.labels.TheConstants.{WAVE_POINTER, WAVE_TIME, PULSE_POINTER, PULSE_TIME}
use Rattle.player_memory.specs.declared.labels.TheConstants.{PULSE_LOW, PULSE_HIGH, TEMPO, FILTER_POINTER}
use Rattle.player_memory.specs.declared.labels.TheConstants.{FILTER_TIME, FILTER_TYPE, FILTER_CONTROL, CUTOFF, VOLUME}
use Rattle.player_memory.specs.declared.labels.TheConstants.{FUNK_ONE, FUNK_TWO, REST, OFFSET, PATTERN_LOW}
use Rattle.player_memory.specs.declared.labels.TheConstants.{PATTERN_HIGH, ORDER_LOW, ORDER_HIGH, ORDER_PLACE}
use Rattle.player_memory.specs.declared.labels.TheConstants.{TRANSPOSE, REPEAT, LENT, KEPT_COMMAND, KEPT_PARAM}
use Rattle.player_memory.specs.declared.conditions.TheConstants.{ROW_COMMAND, EFFECTS, SWINGS, INSTRUMENT_VIBRATO}
use Rattle.player_memory.specs.declared.conditions.TheConstants.{NOTE_DEPENDENT, WAVE_DELAY, PULSE_TABLE, FILTER_USED}
use Rattle.player_memory.specs.declared.conditions.TheConstants.{SET_VOLUME, FUNK_TEMPO, OWN_TIMER}
use Rattle.player_memory.specs.Variables.{VoiceBytesStand, CommonBytesStand}
use Rattle.player_desk.proofs.VoiceDesks.{VoiceDesk}

-- ---- rows

-- where these conditions hold: a voice's
pub record Fields (holds : ℕ → Bool) (v : Voice) (tempo : ℕ) (own : ℕ → ℕ) : Type 0 where
  pub tick : own TICK ≡ v.tick
  pub gate_timer : holds OWN_TIMER ≡ true → own GATE_TIMER ≡ v.gate_timer
  pub instrument : own INSTRUMENT ≡ v.instrument
  pub note : own NOTE ≡ v.note % 128
  pub new_note : own NEW_NOTE ≡ v.new_note
  pub new_command : holds ROW_COMMAND ≡ true → own NEW_COMMAND ≡ v.new_command
  pub new_param : holds ROW_COMMAND ≡ true → v.new_command ≢ 0 → own NEW_PARAM ≡ v.new_param
  pub command : holds EFFECTS ≡ true → own COMMAND ≡ v.command
  pub param : holds EFFECTS ≡ true → own PARAM ≡ v.param
  pub ad : own AD ≡ v.ad
  pub sr : own SR ≡ v.sr
  pub vib_time : holds SWINGS ≡ true → own VIB_TIME ≡ v.vib_time
  pub vib_delay : holds INSTRUMENT_VIBRATO ≡ true → own VIB_DELAY ≡ (v.vib_delay + 255) % 256
  pub wave : own WAVE ≡ v.wave
  pub gate : own GATE ≡ v.gate
  pub freq_low : own FREQ_LOW ≡ v.freq % 256
  pub freq_high : own FREQ_HIGH ≡ v.freq / 256
  pub last_note : holds NOTE_DEPENDENT ≡ true → own LAST_NOTE ≡ v.last_note
  pub wave_ptr : own WAVE_POINTER ≡ v.wave_ptr
  pub wave_time : holds WAVE_DELAY ≡ true → own WAVE_TIME ≡ v.wave_time
  pub pulse_ptr : own PULSE_POINTER ≡ v.pulse_ptr
  pub pulse_time : own PULSE_TIME ≡ v.pulse_time
  pub pulse_low : holds PULSE_TABLE ≡ true → own PULSE_LOW ≡ v.pulse % 256
  pub no_pulse_low : holds PULSE_TABLE ≡ false → v.pulse % 256 ≡ 0
  pub pulse_high : holds PULSE_TABLE ≡ true → own PULSE_HIGH % 16 ≡ v.pulse / 256
  pub no_pulse_high : holds PULSE_TABLE ≡ false → v.pulse / 256 ≡ 0
  pub tempo_is : own TEMPO ≡ tempo

-- and those that the voices share
pub record Shared (holds : ℕ → Bool) (c : Common) (shared : ℕ → ℕ) : Type 0 where
  pub filter_ptr : shared FILTER_POINTER ≡ c.filter_ptr
  pub filter_time : shared FILTER_TIME ≡ c.filter_time
  pub filter_type : holds FILTER_USED ≡ true → shared FILTER_TYPE ≡ c.filter_type
  pub no_filter_type : holds FILTER_USED ≡ false → c.filter_type ≡ 0
  pub filter_control : holds FILTER_USED ≡ true → shared FILTER_CONTROL ≡ c.filter_control
  pub no_filter_control : holds FILTER_USED ≡ false → c.filter_control ≡ 0
  pub cutoff : holds FILTER_USED ≡ true → shared CUTOFF ≡ c.cutoff
  pub no_cutoff : holds FILTER_USED ≡ false → c.cutoff ≡ 0
  pub volume : holds SET_VOLUME ≡ true → shared VOLUME ≡ c.volume
  pub no_volume : holds SET_VOLUME ≡ false → c.volume ≡ 15
  pub funk_one : holds FUNK_TEMPO ≡ true → shared FUNK_ONE ≡ c.funk_one
  pub funk_two : holds FUNK_TEMPO ≡ true → shared FUNK_TWO ≡ c.funk_two

pub fields_of : (holds : ℕ → Bool) (v : Voice) (tempo : ℕ) (own : ℕ → ℕ) → VoiceBytesStand holds v tempo own →
    Fields holds v tempo own
fields_of holds v tempo own stand = assumption stand

pub fields_stand : (holds : ℕ → Bool) (v : Voice) (tempo : ℕ) (own : ℕ → ℕ) → Fields holds v tempo own →
    VoiceBytesStand holds v tempo own
fields_stand holds v tempo own f = assumption f

pub shared_of : (holds : ℕ → Bool) (c : Common) (shared : ℕ → ℕ) → CommonBytesStand holds c shared →
    Shared holds c shared
shared_of holds c shared stand = assumption stand

pub shared_stand : (holds : ℕ → Bool) (c : Common) (shared : ℕ → ℕ) → Shared holds c shared →
    CommonBytesStand holds c shared
shared_stand holds c shared f = assumption f

-- ---- what a rule's code leaves

-- what one part of the code leaves for a later one of the same frame: a lent command, with the voice's own in its place
pub record Lent : Type 0 where
  pub lent : ℕ
  pub command : ℕ
  pub param : ℕ

pub record LentStands (handed : Lent) (shared : ℕ → ℕ) : Type 0 where
  pub lent : shared LENT ≡ handed.lent
  pub command : handed.lent ≢ 0 → shared KEPT_COMMAND ≡ handed.command
  pub param : handed.lent ≢ 0 → shared KEPT_PARAM ≡ handed.param

-- where the voice is in its song
pub record SameSong (one two : ℕ → ℕ) : Type 0 where
  pub rest : one REST ≡ two REST
  pub offset : one OFFSET ≡ two OFFSET
  pub pattern_low : one PATTERN_LOW ≡ two PATTERN_LOW
  pub pattern_high : one PATTERN_HIGH ≡ two PATTERN_HIGH
  pub order_low : one ORDER_LOW ≡ two ORDER_LOW
  pub order_high : one ORDER_HIGH ≡ two ORDER_HIGH
  pub order_place : one ORDER_PLACE ≡ two ORDER_PLACE
  pub transpose : one TRANSPOSE ≡ two TRANSPOSE
  pub repeat : one REPEAT ≡ two REPEAT

-- behind the code of a rule the desk tells this voice and what the voices share, and what is lent; where the voice is
-- in its song stays, and so do the registers
pub record Done (holds : ℕ → Bool) (voice : ℕ) (s : Playing) (handed : Lent) (d m : VoiceDesk) : Type 0 where
  pub fields : Fields holds s.voice (tempo_of (voice + 1) s.common) m.own
  pub common : Shared holds s.common m.shared
  pub tempos : (its : ℕ) → its < 3 → its ≢ voice → m.shared (TEMPO + 7 * its) ≡ tempo_of (its + 1) s.common
  pub lent : LentStands handed m.shared
  pub song : SameSong m.own d.own
  pub sid : m.sid ≡ d.sid

-- ---- what stays

-- the voice's own bytes alone have changed
pub own_done : (holds : ℕ → Bool) (voice : ℕ) (s t : Playing) (handed : Lent) (d m n : VoiceDesk) →
    n.shared ≡ m.shared → n.sid ≡ m.sid → t.common ≡ s.common →
    Fields holds t.voice (tempo_of (voice + 1) s.common) n.own → SameSong n.own d.own →
    Done holds voice s handed d m → Done holds voice t handed d n
own_done holds voice s t handed d m n shared sid common fields song done = record {
  fields = rw common fields;
  common = rw (common, shared) done.common;
  tempos = rw (common, shared) done.tempos;
  lent = rw shared done.lent;
  song = song;
  sid = sid ∙ done.sid;
}

-- registers alone have
pub done_over : (holds : ℕ → Bool) (voice : ℕ) (s : Playing) (handed : Lent) (d m n : VoiceDesk) → n.own ≡ m.own →
    n.shared ≡ m.shared → n.sid ≡ m.sid → Done holds voice s handed d m → Done holds voice s handed d n
done_over holds voice s handed d m n own shared sid done = record {
  fields = rw own done.fields;
  common = rw shared done.common;
  tempos = rw shared done.tempos;
  lent = rw shared done.lent;
  song = rw own done.song;
  sid = sid ∙ done.sid;
}

-- the same state by another name
pub done_by : (holds : ℕ → Bool) (voice : ℕ) (s t : Playing) (handed : Lent) (d m : VoiceDesk) → t ≡ s →
    Done holds voice s handed d m → Done holds voice t handed d m
done_by holds voice s t handed d m e done = rw e done
