-- Where each of the player's parts does nothing: from any memory that holds a state which keeps clear of it. What a
-- block finds in registers is said with the block's own lines. A law on lines that read a byte which is kept under a
-- condition alone has that condition as a premise: it is about layouts that keep the byte. This is the project's own
-- player.
use Rattle.std.specs.Prelude.{◌≡◌, ◌≢◌, ℕ, ◌+◌, ◌%◌, ◌<◌}
use Rattle.std.specs.Prelude.{◌≤◌, ◌⊎◌, true, false, List, [], ◌∷◌}
use Rattle.play_model.specs.State.{Playing, Common}
use Rattle.play_model.specs.TickStep.{tempo_of}
use Rattle.scopes.specs.declared.line.Line.{Line}
use Rattle.scopes.specs.Desk.{Desk, Layout}
use Rattle.scopes.specs.Meaning.{Left, each_one, ran}
use Rattle.player_text.specs.declared.joints.TheConstants.{FOUND}
use Rattle.player_memory.specs.declared.conditions.TheConstants.{FUNK_TEMPO, SET_AD, SET_SR, SET_WAVE, SET_WAVE_POINTER}
use Rattle.player_memory.specs.declared.conditions.TheConstants.{SET_PULSE_POINTER, SET_FILTER_POINTER}
use Rattle.player_memory.specs.declared.conditions.TheConstants.{SET_FILTER_CONTROL, SET_CUTOFF, SET_VOLUME, SET_TEMPO}
use Rattle.player_memory.specs.declared.conditions.TheConstants.{WAVE_TABLE, WAVE_COMMAND, PULSE_TABLE, FILTER_TABLE}
use Rattle.player_memory.specs.declared.conditions.TheConstants.{INSTRUMENT_VIBRATO, NOTE_DEPENDENT, SWINGS, PORTA_UP}
use Rattle.player_memory.specs.declared.conditions.TheConstants.{SKIP_EFFECTS, ROW_TONE, ROW_ONCE, FIRST_MASK, LEGATO}
use Rattle.player_memory.specs.declared.conditions.TheConstants.{NO_HARD_RESTART, GATE_NOTE, SPECIAL_ROW, HELD_NOTE}
use Rattle.player_memory.specs.declared.conditions.TheConstants.{NOTE_VIBRATO, VIBRATO_DELAY, NOTE_PULSE, NOTE_FILTER}
use Rattle.player_memory.specs.declared.conditions.TheConstants.{VOICE_TEMPO, COMMON_TEMPO, FUNK_TURNS, FUNK_CHOICE}
use Rattle.player_memory.specs.declared.conditions.TheConstants.{PORTA_DOWN, TONE_PORTA, TIE_NOTE, TRANSPOSES, REPEATS}
use Rattle.player_memory.specs.declared.conditions.TheConstants.{EFFECTS, ROW_COMMAND, FIRST_HOLDS}
use Rattle.player_memory.specs.declared.labels.TheConstants.{WAVE_LEFTS, SPEED_LEFTS, GATE_TIMERS, LENT}
use Rattle.player_memory.specs.declared.labels.TheConstants.{TRANSPOSE, REPEAT, DELAYS, VIBRATOS, PULSES, FILTERS}
use Rattle.player_memory.specs.declared.labels.TheConstants.{GATE_FROM, ENVELOPE_FROM}
use Rattle.player_memory.specs.Rooms.{IsRoom, MayUse}
use Rattle.player_memory.specs.Variables.{CommonBytesStand}
use Rattle.player_memory.specs.Playing.{IsListed, IsAlone, own_at, shared_at}
use Rattle.player_text.specs.declared.tick.TheConstants.{FRAME_COUNTED, NOTE_TAKEN, NOTE_BEGUN, PROGRAMS_BEGUN}
use Rattle.player_text.specs.declared.tick.TheConstants.{COMMAND_BEGUN}
use Rattle.player_text.specs.declared.commands.TheConstants.{AD_SET, SR_SET, WAVE_SET, WAVE_POINTER_SET}
use Rattle.player_text.specs.declared.commands.TheConstants.{PULSE_POINTER_SET, FILTER_POINTER_SET}
use Rattle.player_text.specs.declared.commands.TheConstants.{FILTER_CONTROL_SET, CUTOFF_SET, VOLUME_SET, FUNK_SET}
use Rattle.player_text.specs.declared.commands.TheConstants.{TEMPO_SET, FUNK_CHOSEN}
use Rattle.player_text.specs.declared.wave.TheConstants.{WAVE_STEP}
use Rattle.player_text.specs.declared.effect.TheConstants.{EFFECT_BEGUN}
use Rattle.player_text.specs.declared.slide.TheConstants.{SPEED_STEP, SWING_STEP, PORTA_STEP, TONE_STEP}
use Rattle.player_text.specs.declared.pitch.TheConstants.{GIVEN_BACK}
use Rattle.player_text.specs.declared.fetch.TheConstants.{ENTRY_READ, GATE_CLOSED}
use Rattle.player_text.specs.declared.walk.TheConstants.{PLAY_REPEATED, ORDER_WALKED}
use Rattle.player_text.specs.declared.pulse.TheConstants.{PULSE}
use Rattle.player_text.specs.declared.filter.TheConstants.{FILTER_STEP}
use Rattle.idle_parts.specs.Idle.{A, Y, Carry, Idles, IdlesWhereMet, HoldsVoice, met, part}

-- ---- the tick step

-- A row's length is taken from the funk tempos where the voice's tempo is 0 or 1; A keeps another one.
abbrev pub TemposIdle : Type 0
TemposIdle =
    (layout : Layout) (rows voice : ℕ) (s : Playing) (desk : Desk) → HoldsVoice layout rows voice s desk →
    2 ≤ tempo_of (voice + 1) s.common → IdlesWhereMet layout FUNK_TEMPO FRAME_COUNTED.now desk (A ∷ Y ∷ [])

-- each command leaves all where Y is another one
abbrev pub IsForCommand : ℕ → ℕ → List Line → Type 0
IsForCommand command condition block =
    (layout : Layout) (desk : Desk) → desk.cpu.y < 256 → desk.cpu.y ≢ command →
    Idles layout (part condition 0 block) desk (A ∷ Y ∷ [])

pub record CommandsIdle : Type 0 where
  pub ad : IsForCommand 5 SET_AD AD_SET.now
  pub sr : IsForCommand 6 SET_SR SR_SET.now
  pub wave : IsForCommand 7 SET_WAVE WAVE_SET.now
  pub wave_pointer : IsForCommand 8 SET_WAVE_POINTER WAVE_POINTER_SET.now
  pub pulse_pointer : IsForCommand 9 SET_PULSE_POINTER PULSE_POINTER_SET.now
  pub filter_pointer : IsForCommand 0xA SET_FILTER_POINTER FILTER_POINTER_SET.now
  pub filter_control : IsForCommand 0xB SET_FILTER_CONTROL FILTER_CONTROL_SET.now
  pub cutoff : IsForCommand 0xC SET_CUTOFF CUTOFF_SET.now
  pub volume : IsForCommand 0xD SET_VOLUME VOLUME_SET.now
  pub choice : IsForCommand 0xE FUNK_CHOICE FUNK_CHOSEN.now
  pub turns : IsForCommand 0xF FUNK_TURNS FUNK_SET.now
  pub tempo : IsForCommand 0xF SET_TEMPO TEMPO_SET.now
  -- command $F chooses the funk tempos by 0 and 1 alone, and sets no tempo whose last seven bits are below 3, if the
  -- lines for one voice are kept for those from $80 on
  pub long : (layout : Layout) (desk : Desk) → desk.cpu.y < 256 → 2 ≤ desk.cpu.a →
      Idles layout (part FUNK_TURNS 0 FUNK_SET.now) desk (A ∷ Y ∷ [])
  pub short : (layout : Layout) (desk : Desk) → desk.cpu.y < 256 → desk.cpu.a < 256 → desk.cpu.a % 128 < 3 →
      (0x80 ≤ desk.cpu.a → layout.holds VOICE_TEMPO ≡ true) →
      Idles layout (part SET_TEMPO 0 TEMPO_SET.now) desk (Y ∷ [])
  -- below $80 it is for all voices, and below 3 sets none of them
  pub for_all : (layout : Layout) (desk : Desk) → desk.cpu.a < 0x80 →
      Idles layout (part VOICE_TEMPO 0 TEMPO_SET.now) desk (A ∷ Y ∷ [])
  pub none : (layout : Layout) (desk : Desk) → desk.cpu.a < 3 →
      Idles layout (part COMMON_TEMPO 0 TEMPO_SET.now) desk (A ∷ Y ∷ [])

-- ---- the wave step and the pulse step

pub record ProgramsIdle (layout : Layout) (rows voice : ℕ) (s : Playing) (desk : Desk) : Type 0 where
  pub wave : s.voice.wave_ptr ≡ 0 → Idles layout (part WAVE_TABLE 0 WAVE_STEP.now) desk []
  -- the row's left side, as it is stored, is below $F0: both where it is told from a delay, and where the row is done
  pub command : (left : ℕ) → IsListed layout rows desk.at WAVE_LEFTS s.voice.wave_ptr left → left < 0xF0 →
      IdlesWhereMet layout WAVE_COMMAND WAVE_STEP.now desk (A ∷ Y ∷ [])
  pub row_done : (left : ℕ) → IsListed layout rows desk.at WAVE_LEFTS desk.cpu.y left → left < 0xF0 →
      desk.cpu.c ≡ false → Idles layout (part WAVE_COMMAND 1 WAVE_STEP.now) desk (Y ∷ Carry ∷ [])
  pub pulse : s.voice.pulse_ptr ≡ 0 → Idles layout (part PULSE_TABLE 0 PULSE.now) desk []

-- ---- the effect step

pub record EffectsIdle (layout : Layout) (rows voice : ℕ) (s : Playing) (desk : Desk) : Type 0 where
  -- the instrument's vibrato, where no command runs: it has no parameter, or a delay of 0, which never ends, or the
  -- step is left out
  pub vibrato : layout.holds EFFECTS ≡ true → layout.holds INSTRUMENT_VIBRATO ≡ true →
      (s.voice.param ≡ 0) ⊎ (s.voice.vib_delay ≡ 0) ⊎ ((layout.holds SKIP_EFFECTS ≡ true) × (s.voice.tick ≡ 0)) →
      IdlesWhereMet layout INSTRUMENT_VIBRATO EFFECT_BEGUN.now desk []
  -- the left side of the row of the speed table is below $80; A is the command that runs, 4 for the instrument's
  -- vibrato
  pub speed : layout.holds EFFECTS ≡ true → (command left : ℕ) →
      IsListed layout rows desk.at SPEED_LEFTS s.voice.param left → left < 0x80 →
      ((s.voice.command ≢ 0) × (command ≡ s.voice.command)) ⊎ ((s.voice.command ≡ 0) × (command ≡ 4)) →
      desk.cpu.a ≡ command →
      IdlesWhereMet layout NOTE_DEPENDENT SPEED_STEP.now desk (A ∷ Y ∷ [])
  pub swing_speed : (left : ℕ) → IsListed layout rows desk.at SPEED_LEFTS desk.cpu.y left → left < 0x80 →
      Idles layout (part NOTE_DEPENDENT 0 SWING_STEP.now) desk (Y ∷ Carry ∷ [])
  -- A is the command that runs, Y the parameter
  pub swing : desk.cpu.a < 4 → Idles layout (part SWINGS 0 SWING_STEP.now) desk (A ∷ Y ∷ [])
  pub up : 2 ≤ desk.cpu.a → Idles layout (part PORTA_UP 0 PORTA_STEP.now) desk (A ∷ Y ∷ [])
  pub down : desk.cpu.a < 256 → desk.cpu.a ≢ 2 → Idles layout (part PORTA_DOWN 0 PORTA_STEP.now) desk (A ∷ Y ∷ [])
  pub tie : desk.cpu.y < 256 → desk.cpu.y ≢ 0 → Idles layout (part TIE_NOTE 0 TONE_STEP.now) desk (A ∷ Y ∷ [])
  -- where the tie's lines are kept, its parameter 0 doesn't come to those of tone portamento
  pub tied : layout.holds TIE_NOTE ≡ true → desk.cpu.y ≡ 0 →
      (met layout TONE_PORTA TONE_STEP.now desk).outcome ≡ Left FOUND
  pub given_back : shared_at layout desk.at LENT ≡ 0 → Idles layout (part WAVE_COMMAND 0 GIVEN_BACK.now) desk []

-- ---- the fetch of a row, and the orderlist's walk

pub record FetchesIdle (layout : Layout) (voice : ℕ) (desk : Desk) : Type 0 where
  -- the transpose is 0; A is a note, and the carry is off
  pub note : own_at layout desk.at voice TRANSPOSE ≡ 0 → desk.cpu.a < 256 → desk.cpu.c ≡ false →
      Idles layout (part TRANSPOSES 0 ENTRY_READ.now) desk (A ∷ Y ∷ Carry ∷ [])
  pub play : own_at layout desk.at voice REPEAT ≡ 0 → Idles layout (part REPEATS 0 PLAY_REPEATED.now) desk []
  -- A is a byte of the orderlist from $D0 on, and the carry is on: no repeat; and no transpose, but the endmark
  pub repeat : 0xE0 ≤ desk.cpu.a → desk.cpu.c ≡ true →
      Idles layout (part REPEATS 0 ORDER_WALKED.now) desk (A ∷ Y ∷ Carry ∷ [])
  pub transpose : desk.cpu.a ≡ 0xFF → desk.cpu.c ≡ true →
      Idles layout (part TRANSPOSES 0 ORDER_WALKED.now) desk (A ∷ Y ∷ Carry ∷ [])

-- ---- what the facts of a song keep

-- the number stands alone from which on instruments hold the gate, or the envelope, and an instrument's is below it
pub record IsBelow (layout : Layout) (rows : ℕ) (at : ℕ → ℕ) (label instrument : ℕ) : Type 0 where
  pub from : ℕ
  pub stands : IsAlone layout rows at label from
  pub below : instrument < from

-- where the instruments stand in the order of what they hold, this one is below the first of those that hold what lines
-- are kept for
pub record IsBelowHolders (layout : Layout) (rows : ℕ) (at : ℕ → ℕ) (instrument : ℕ) : Type 0 where
  pub ordered : layout.holds FIRST_HOLDS ≡ false
  pub gate : layout.holds LEGATO ≡ true → IsBelow layout rows at GATE_FROM instrument
  pub envelope : layout.holds NO_HARD_RESTART ≡ true → IsBelow layout rows at ENVELOPE_FROM instrument

pub record FactsIdle (layout : Layout) (rows voice : ℕ) (s : Playing) (desk : Desk) : Type 0 where
  -- the row's command isn't 3: where a note is taken, and where the gate is closed before one
  pub tone : layout.holds ROW_COMMAND ≡ true → s.voice.new_command < 256 → s.voice.new_command ≢ 3 →
      Idles layout (part ROW_TONE 0 NOTE_TAKEN.now) desk (Y ∷ [])
  pub tone_next : layout.holds ROW_COMMAND ≡ true → s.voice.new_command < 256 → s.voice.new_command ≢ 3 →
      Idles layout (part ROW_TONE 0 GATE_CLOSED.now) desk (Y ∷ [])
  -- A is the row's command; one below 5 isn't done once
  pub once : desk.cpu.a < 5 → Idles layout (part ROW_ONCE 0 COMMAND_BEGUN.now) desk (A ∷ Y ∷ [])
  -- A is an instrument's first waveform, as the flag shows
  pub mask : desk.cpu.z ≡ false → desk.cpu.a < 0xFE → Idles layout (part FIRST_MASK 0 NOTE_BEGUN.now) desk (A ∷ Y ∷ [])
  -- Y is the instrument: its vibrato's delay is stored as 255, as is the voice's; its vibrato is 0, as is A, where a
  -- note begins and where a row has no command; and it has no pulse program and no filter program
  pub delay : layout.holds INSTRUMENT_VIBRATO ≡ true → IsListed layout rows desk.at DELAYS desk.cpu.y 255 →
      s.voice.vib_delay ≡ 0 →
      Idles layout (part VIBRATO_DELAY 0 NOTE_TAKEN.now) desk (Y ∷ [])
  pub vibrato : IsListed layout rows desk.at VIBRATOS desk.cpu.y 0 → desk.cpu.a ≡ 0 →
      Idles layout (part NOTE_VIBRATO 0 NOTE_BEGUN.now) desk (A ∷ Y ∷ [])
  pub row_vibrato : IsListed layout rows desk.at VIBRATOS desk.cpu.y 0 → desk.cpu.a ≡ 0 →
      Idles layout (part NOTE_VIBRATO 0 COMMAND_BEGUN.now) desk (A ∷ Y ∷ [])
  pub pulse : IsListed layout rows desk.at PULSES desk.cpu.y 0 →
      Idles layout (part NOTE_PULSE 0 PROGRAMS_BEGUN.now) desk (Y ∷ [])
  pub filter : IsListed layout rows desk.at FILTERS desk.cpu.y 0 →
      Idles layout (part NOTE_FILTER 0 PROGRAMS_BEGUN.now) desk (Y ∷ [])
  -- where the lines are kept for a first instrument that holds more than another, the instrument's gateoff timer has
  -- neither bit $40 nor bit $80, and behind the lines the carry says so
  pub held : layout.holds FIRST_HOLDS ≡ true → (timer : ℕ) →
      IsListed layout rows desk.at GATE_TIMERS s.voice.instrument timer → timer < 0x40 →
      Idles layout (part HELD_NOTE 0 GATE_CLOSED.now) desk []
  pub held_carry : layout.holds FIRST_HOLDS ≡ true → (timer : ℕ) →
      IsListed layout rows desk.at GATE_TIMERS s.voice.instrument timer → timer < 0x40 →
      (ran each_one layout (part HELD_NOTE 0 GATE_CLOSED.now) desk).desk.cpu.c ≡ false
  -- where they aren't, its number is below those of the instruments that hold the gate and the envelope, and behind the
  -- lines the carry says so, where those for one of the two are kept
  pub ordered : IsBelowHolders layout rows desk.at s.voice.instrument →
      Idles layout (part HELD_NOTE 0 GATE_CLOSED.now) desk []
  pub ordered_carry : IsBelowHolders layout rows desk.at s.voice.instrument →
      (layout.holds LEGATO ≡ true) ⊎ (layout.holds NO_HARD_RESTART ≡ true) →
      (ran each_one layout (part HELD_NOTE 0 GATE_CLOSED.now) desk).desk.cpu.c ≡ false
  -- the flags show the two bits: N bit $40, and the carry bit $80
  pub legato : desk.cpu.n ≡ false → Idles layout (part LEGATO 0 GATE_CLOSED.now) desk (A ∷ Y ∷ Carry ∷ [])
  pub no_hard_restart : desk.cpu.c ≡ false →
      Idles layout (part NO_HARD_RESTART 1 GATE_CLOSED.now) desk (A ∷ Y ∷ Carry ∷ [])
  -- A is the instrument's number, which is below the one that it is compared with: behind that the carry is off
  pub gate_from : IsBelow layout rows desk.at GATE_FROM desk.cpu.a →
      Idles layout (part LEGATO 1 GATE_CLOSED.now) desk (A ∷ Y ∷ [])
  pub gate_carry : IsBelow layout rows desk.at GATE_FROM desk.cpu.a →
      (ran each_one layout (part LEGATO 1 GATE_CLOSED.now) desk).desk.cpu.c ≡ false
  pub envelope_from : IsBelow layout rows desk.at ENVELOPE_FROM desk.cpu.a →
      Idles layout (part NO_HARD_RESTART 0 GATE_CLOSED.now) desk (A ∷ Y ∷ [])
  pub envelope_carry : IsBelow layout rows desk.at ENVELOPE_FROM desk.cpu.a →
      (ran each_one layout (part NO_HARD_RESTART 0 GATE_CLOSED.now) desk).desk.cpu.c ≡ false
  -- A is a left side of the wave table, as it is stored
  pub special : desk.cpu.a < 0xE0 → Idles layout (part SPECIAL_ROW 0 WAVE_STEP.now) desk (A ∷ Y ∷ [])
  -- A is the byte of a run of rests, and the carry is on
  pub gate : 0xC0 ≤ desk.cpu.a → desk.cpu.c ≡ true →
      Idles layout (part GATE_NOTE 0 ENTRY_READ.now) desk (A ∷ Y ∷ Carry ∷ [])

-- ---- the filter

abbrev pub FiltersIdle : Type 0
FiltersIdle =
    (layout : Layout) (rows : ℕ) (c : Common) (desk : Desk) → IsRoom layout rows → MayUse layout rows →
    CommonBytesStand layout.holds c (shared_at layout desk.at) → c.filter_ptr ≡ 0 →
    Idles layout (part FILTER_TABLE 0 FILTER_STEP.now) desk []
