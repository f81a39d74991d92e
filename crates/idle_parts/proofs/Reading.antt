-- What a voice's bytes are on a desk at that voice, and that they may be read.
use Rattle.std.proofs.Common.{◌≡◌, ◌≢◌, ℕ, ◌+◌, ◌*◌, ◌/◌, ◌%◌, ◌<◌, Bool, true, nat_lt, ◌∙◌, ap, arith}
use Rattle.std.proofs.lemmas.Bool.{ltb-true, and_parts}
use Rattle.player_memory.specs.Labels.{is_own}
use Rattle.play_model.specs.State.{Voice, Common, Playing}
use Rattle.scopes.specs.Desk.{Desk, Layout}
use Rattle.player_memory.specs.declared.conditions.TheConstants.{ROW_COMMAND, EFFECTS, INSTRUMENT_VIBRATO}
use Rattle.player_memory.specs.declared.conditions.TheConstants.{PULSE_TABLE, FILTER_USED, SET_VOLUME, OWN_TIMER}
use Rattle.player_memory.specs.declared.labels.TheConstants.{TICK, INSTRUMENT, NEW_COMMAND, NEW_PARAM, COMMAND, PARAM}
use Rattle.player_memory.specs.declared.labels.TheConstants.{VIB_DELAY, GATE_TIMER}
use Rattle.player_memory.specs.declared.labels.TheConstants.{WAVE_POINTER, PULSE_POINTER, PULSE_LOW, PULSE_HIGH}
use Rattle.player_memory.specs.declared.labels.TheConstants.{FILTER_TYPE, FILTER_CONTROL, CUTOFF, VOLUME}
use Rattle.player_memory.specs.Variables.{CommonBytesStand}
use Rattle.player_memory.specs.Playing.{own_at}
use Rattle.idle_parts.specs.Idle.{HoldsVoice}

own_few : {layout : Layout} {rows voice : ℕ} {s : Playing} {desk : Desk} → HoldsVoice layout rows voice s desk →
    (label : ℕ) → is_own label ≡ true → label + 7 * voice < 113
own_few h label own =
    let few = h.few in
    let small = ltb-true label 90 (and_parts (nat_lt label 90) (nat_lt (label % 21) 7) own).0 in
    omega (arith, small, few)

-- the place of a voice's byte
pub own_place : {layout : Layout} {rows voice : ℕ} {s : Playing} {desk : Desk} → HoldsVoice layout rows voice s desk →
    (label : ℕ) → is_own label ≡ true → (layout.address label + desk.cpu.x) % 65536 ≡ layout.address (label + 7 * voice)
own_place {layout} {rows} {voice} h label own =
    let x = h.at_voice.x in
    let at = h.room.variables.voices label voice own h.few in
    let ends = h.room.variables.to (label + 7 * voice) (own_few h label own) in
    omega (arith, x, at, ends)

pub own_sees : {layout : Layout} {rows voice : ℕ} {s : Playing} {desk : Desk} → HoldsVoice layout rows voice s desk →
    (label : ℕ) → is_own label ≡ true → layout.may_read ((layout.address label + desk.cpu.x) % 65536) ≡ true
own_sees {layout} {rows} {voice} h label own =
    ap layout.may_read (own_place h label own) ∙ h.may.reads (label + 7 * voice) (own_few h label own)

pub own_writes : {layout : Layout} {rows voice : ℕ} {s : Playing} {desk : Desk} → HoldsVoice layout rows voice s desk →
    (label : ℕ) → is_own label ≡ true → layout.may_write ((layout.address label + desk.cpu.x) % 65536) ≡ true
own_writes {layout} {rows} {voice} h label own =
    ap layout.may_write (own_place h label own) ∙ h.may.writes (label + 7 * voice) (own_few h label own)

pub own_is : {layout : Layout} {rows voice : ℕ} {s : Playing} {desk : Desk} → HoldsVoice layout rows voice s desk →
    (label byte : ℕ) → is_own label ≡ true → own_at layout desk.at voice label ≡ byte →
    desk.at ((layout.address label + desk.cpu.x) % 65536) ≡ byte
own_is {layout} {desk = desk} h label byte own is = ap desk.at (own_place h label own) ∙ is

-- ---- a voice's bytes, of those that parts look at

pub record OwnBytes (holds : ℕ → Bool) (v : Voice) (own : ℕ → ℕ) : Type 0 where
  pub tick : own TICK ≡ v.tick
  pub gate_timer : holds OWN_TIMER ≡ true → own GATE_TIMER ≡ v.gate_timer
  pub instrument : own INSTRUMENT ≡ v.instrument
  pub new_command : holds ROW_COMMAND ≡ true → own NEW_COMMAND ≡ v.new_command
  pub new_param : holds ROW_COMMAND ≡ true → v.new_command ≢ 0 → own NEW_PARAM ≡ v.new_param
  pub command : holds EFFECTS ≡ true → own COMMAND ≡ v.command
  pub param : holds EFFECTS ≡ true → own PARAM ≡ v.param
  pub vib_delay : holds INSTRUMENT_VIBRATO ≡ true → own VIB_DELAY ≡ (v.vib_delay + 255) % 256
  pub wave_pointer : own WAVE_POINTER ≡ v.wave_ptr
  pub pulse_pointer : own PULSE_POINTER ≡ v.pulse_ptr
  pub pulse_low : holds PULSE_TABLE ≡ true → own PULSE_LOW ≡ v.pulse % 256
  pub pulse_high : holds PULSE_TABLE ≡ true → own PULSE_HIGH % 16 ≡ v.pulse / 256

pub own_bytes : {layout : Layout} {rows voice : ℕ} {s : Playing} {desk : Desk} → HoldsVoice layout rows voice s desk →
    OwnBytes layout.holds s.voice (own_at layout desk.at voice)
own_bytes h = record {
  tick = h.plays.own.0;
  gate_timer = h.plays.own.1.0;
  instrument = h.plays.own.1.1.0;
  new_command = h.plays.own.1.1.1.1.1.0;
  new_param = h.plays.own.1.1.1.1.1.1.0;
  command = h.plays.own.1.1.1.1.1.1.1.0;
  param = h.plays.own.1.1.1.1.1.1.1.1.0;
  vib_delay = h.plays.own.1.1.1.1.1.1.1.1.1.1.1.1.0;
  wave_pointer = h.plays.own.1.1.1.1.1.1.1.1.1.1.1.1.1.1.1.1.1.1.0;
  pulse_pointer = h.plays.own.1.1.1.1.1.1.1.1.1.1.1.1.1.1.1.1.1.1.1.1.0;
  pulse_low = h.plays.own.1.1.1.1.1.1.1.1.1.1.1.1.1.1.1.1.1.1.1.1.1.1.0.0;
  pulse_high = h.plays.own.1.1.1.1.1.1.1.1.1.1.1.1.1.1.1.1.1.1.1.1.1.1.1.0.0;
}

-- ---- what the voices share, of that

pub record CommonBytes (holds : ℕ → Bool) (c : Common) (shared : ℕ → ℕ) : Type 0 where
  pub filter_type : holds FILTER_USED ≡ true → shared FILTER_TYPE ≡ c.filter_type
  pub filter_control : holds FILTER_USED ≡ true → shared FILTER_CONTROL ≡ c.filter_control
  pub cutoff : holds FILTER_USED ≡ true → shared CUTOFF ≡ c.cutoff
  pub volume : holds SET_VOLUME ≡ true → shared VOLUME ≡ c.volume

pub common_bytes : {holds : ℕ → Bool} {c : Common} {shared : ℕ → ℕ} → CommonBytesStand holds c shared →
    CommonBytes holds c shared
common_bytes stand = record {
  filter_type = stand.1.1.0.0;
  filter_control = stand.1.1.1.0.0;
  cutoff = stand.1.1.1.1.0.0;
  volume = stand.1.1.1.1.1.0.0;
}
