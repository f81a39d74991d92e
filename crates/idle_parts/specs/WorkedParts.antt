-- Where parts don't do nothing, worked by hand.
use Rattle.std.specs.Prelude.{◌≡◌, ◌≢◌, ℕ, ◌+◌, ◌%◌, ◌≤◌, ◌==◌, ◌&&◌, if◌then◌else◌, not, true, false, [], ◌∷◌}
use Rattle.cpu6502.specs.declared.mnemonic.Mnemonic.TheVariants.{Dex, Inc, Lda, Sta}
use Rattle.scopes.specs.declared.line.Operand.TheVariants.{Own, Var}
use Rattle.play_model.specs.State.{Playing}
use Rattle.scopes.specs.Desk.{Desk, Layout}
use Rattle.scopes.specs.Trees.{Tree, DoTree, WithTree, NoneTree, ThenTree, ScopeTree, LeaveTree, WhenTree}
use Rattle.scopes.specs.Trees.{ChooseTree, NeverTree}
use Rattle.scopes.specs.Meaning.{Done, Left, each_one, ran}
use Rattle.player_memory.specs.declared.conditions.TheConstants.{SET_AD, SET_TEMPO, PULSE_TABLE, PORTA_UP, TIE_NOTE}
use Rattle.player_memory.specs.declared.conditions.TheConstants.{FIRST_MASK, GATE_NOTE, LEGATO, NO_HARD_RESTART}
use Rattle.player_memory.specs.declared.conditions.TheConstants.{ROW_ONCE}
use Rattle.player_memory.specs.declared.conditions.TheConstants.{ROW_TONE, SPECIAL_ROW, WAVE_COMMAND}
use Rattle.player_memory.specs.declared.conditions.TheConstants.{INSTRUMENT_VIBRATO}
use Rattle.player_memory.specs.declared.conditions.TheConstants.{ROW_COMMAND, EFFECTS, FILTER_USED, SET_VOLUME}
use Rattle.player_memory.specs.declared.conditions.TheConstants.{WAVE_DELAY, SWINGS}
use Rattle.player_memory.specs.declared.conditions.TheConstants.{HELD_NOTE, NOTE_VIBRATO, VIBRATO_DELAY, NOTE_PULSE}
use Rattle.player_memory.specs.declared.conditions.TheConstants.{NOTE_FILTER}
use Rattle.player_memory.specs.declared.conditions.TheConstants.{VOICE_TEMPO, COMMON_TEMPO, FUNK_TURNS, FUNK_CHOICE}
use Rattle.player_memory.specs.declared.conditions.TheConstants.{SKIP_FIRST, OWN_TIMER, OWN_WAVE, SUBTUNES, FIRST_HOLDS}
use Rattle.player_memory.specs.declared.labels.TheConstants.{AD, NEW_COMMAND, PULSE_TIME, FILTER_TIME, GATE_TIMERS}
use Rattle.player_memory.specs.declared.labels.TheConstants.{DELAYS, VIBRATOS, PULSES, FILTERS, VIB_TIME, WAVE_TIME}
use Rattle.player_memory.specs.declared.labels.TheConstants.{COMMAND, NEW_PARAM, PARAM, KEPT_PARAM, ONE_TIMER, ONE_WAVE}
use Rattle.player_memory.specs.declared.labels.TheConstants.{ORDER_LOW, ORDER_HIGH, GATE_FROM, ENVELOPE_FROM}
use Rattle.player_memory.specs.Playing.{IsListed, own_at, shared_at}
use Rattle.player_text.specs.declared.commands.TheConstants.{AD_SET, TEMPO_SET, FUNK_SET, FUNK_CHOSEN}
use Rattle.player_text.specs.declared.slide.TheConstants.{PORTA_STEP, TONE_STEP}
use Rattle.player_text.specs.declared.pulse.TheConstants.{PULSE}
use Rattle.player_text.specs.declared.joints.TheConstants.{EFFECTED}
use Rattle.player_text.specs.declared.effect.TheConstants.{EFFECT_BEGUN}
use Rattle.player_text.specs.declared.pitch.TheConstants.{PITCH}
use Rattle.player_text.specs.declared.filter.TheConstants.{FILTER_REGISTERS}
use Rattle.player_text.specs.declared.register.TheConstants.{REGISTERS}
use Rattle.player_text.specs.Texts.{voice_tree, filter_tree}
use Rattle.player_text.specs.declared.tick.TheConstants.{GATE_TIMER_SET, NOTE_TAKEN, NOTE_BEGUN, PROGRAMS_BEGUN}
use Rattle.player_text.specs.declared.tick.TheConstants.{COMMAND_BEGUN, BARE}
use Rattle.player_text.specs.declared.wave.TheConstants.{WAVE_STEP}
use Rattle.player_text.specs.declared.fetch.TheConstants.{ROW_AWAITED, ENTRY_BEGUN, ENTRY_READ, GATE_CLOSED}
use Rattle.player_text.specs.declared.init.TheConstants.{VOICE_STARTED}
use Rattle.idle_parts.specs.Idle.{A, Y, Carry, Idles, HoldsVoice, bodies, front, part}
use Rattle.idle_parts.specs.Fronts.{Finds}
use Rattle.idle_parts.specs.IdleParts.{IsBelow}
use Rattle.play_model.specs.LookUps.{LookUps}
use Rattle.idle_parts.specs.Places.{leaves, may_end}
use Rattle.idle_parts.specs.KeptBytes.{Alike, ShowAlike, CompareAlike, TellAlike, IsToldTwice, Clears}
use Rattle.idle_parts.specs.KeptBytes.{LeavesAll, IdlesBut}
use Rattle.idle_parts.specs.KeptBytes.{LeaveSame, NOTE_STORES, KEEPING, reads_under}

-- an instruction, a leave under condition 5, and another one
abbrev pub small : Tree
small =
    ScopeTree 1
    (ThenTree (DoTree Dex) (ThenTree (WhenTree 5 (ThenTree (LeaveTree 1) NoneTree)) (ThenTree (LeaveTree 1) NoneTree)))

-- a layout with each label at its own number, which keeps all
abbrev pub flat : Layout
flat = record {
  address = λ label. label;
  pointer = 0xFC;
  holds = λ condition. true;
  open_turns = 255;
  may_read = λ place. true;
  may_write = λ place. true;
}

-- the same without the lines for the tempo of one voice
abbrev pub without_voice : Layout
without_voice = record flat { holds = λ condition. not (condition == VOICE_TEMPO) }

-- and without those where a command may run
abbrev pub without_effects : Layout
without_effects = record flat { holds = λ condition. not (condition == EFFECTS) }

-- without those for a first instrument that holds more than another, and without those for a held gate or envelope
abbrev pub in_order : Layout
in_order = record flat { holds = λ condition. not (condition == FIRST_HOLDS) }

abbrev pub without_gate : Layout
without_gate = record flat { holds = λ condition. not (condition == FIRST_HOLDS) && not (condition == LEGATO) }

abbrev pub without_envelope : Layout
without_envelope = record flat {
  holds = λ condition. not (condition == FIRST_HOLDS) && not (condition == NO_HARD_RESTART);
}

-- a desk in it with these in A and Y, and 2 in each place
abbrev pub desk_with : ℕ → ℕ → Desk
desk_with a y = record {
  cpu = record {
    a = a;
    x = 0;
    y = y;
    sp = 0;
    pc = 0;
    n = false;
    v = false;
    d = false;
    i = false;
    z = false;
    c = false;
  };
  at = λ place. 2;
}

-- and this byte at one of them
abbrev pub desk_but : ℕ → ℕ → ℕ → Desk
desk_but there byte a = record (desk_with a 0) { at = λ place. if place == there then byte else 2 }

-- instrument 2 has this gateoff timer, and from these numbers on instruments hold the gate and the envelope
abbrev pub desk_held : ℕ → ℕ → ℕ → Desk
desk_held timer gate envelope = record (desk_with 0 0) {
  at = λ place.
      if place == GATE_TIMERS + 2 then timer
      else if place == GATE_FROM then gate
      else if place == ENVELOPE_FROM then envelope
      else 2;
}

-- with the carry on
abbrev pub carry_on : Desk → Desk
carry_on desk = record desk { cpu = record desk.cpu { c = true } }

abbrev pub IsTold : Layout → ℕ → ℕ → ℕ → Type 0
IsTold layout timer gate envelope =
    TellAlike layout (part FIRST_HOLDS 0 GATE_CLOSED.now) (part FIRST_HOLDS 1 GATE_CLOSED.now)
    (desk_held timer gate envelope)

pub record PartsAreWorked : Type 0 where
  -- a command that is done changes a byte, and command 1 leaves the block
  pub done : (layout : Layout) (desk : Desk) → desk.cpu.y ≡ 5 →
      desk.at ((layout.address AD + desk.cpu.x) % 65536) ≢ desk.cpu.a →
      ¬ Idles layout (part SET_AD 0 AD_SET.now) desk []
  pub up : (layout : Layout) (desk : Desk) → desk.cpu.a ≡ 1 → ¬ Idles layout (part PORTA_UP 0 PORTA_STEP.now) desk []
  -- a pulse program that isn't there leaves each byte, but not Y
  pub register : (layout : Layout) (rows voice : ℕ) (s : Playing) (desk : Desk) →
      HoldsVoice layout rows voice s desk → s.voice.pulse_ptr ≡ 0 → desk.cpu.y ≢ 0 →
      ¬ Idles layout (part PULSE_TABLE 0 PULSE.now) desk (Y ∷ [])
  -- the tie of a parameter sets the carry, and a short tempo of one voice loses its bit 7
  pub carry : (layout : Layout) (desk : Desk) → desk.cpu.y ≡ 1 → desk.cpu.c ≡ false →
      ¬ Idles layout (part TIE_NOTE 0 TONE_STEP.now) desk (Carry ∷ [])
  pub bit : ¬ Idles flat (part SET_TEMPO 0 TEMPO_SET.now) (desk_with 0x81 0xF) (A ∷ [])
  -- without the lines for one voice it is taken for one of all
  pub for_one : ¬ Idles without_voice (part SET_TEMPO 0 TEMPO_SET.now) (desk_with 0x81 0xF) []
  -- command $F with $83 leaves behind the tempo of its voice, with 3 it has 2 in A, which it stores for all voices, and
  -- with 1 it stores that; and $E with 0 stores 0 for them
  pub voice_tempo : ¬ Idles flat (part VOICE_TEMPO 0 TEMPO_SET.now) (desk_with 0x83 0xF) []
  pub common_tempo : ¬ Idles flat (part COMMON_TEMPO 0 TEMPO_SET.now) (desk_with 3 0xF) (A ∷ [])
  pub turns : ¬ Idles flat (part FUNK_TURNS 0 FUNK_SET.now) (desk_with 1 0xF) []
  pub choice : ¬ Idles flat (part FUNK_CHOICE 0 FUNK_CHOSEN.now) (desk_with 0 0xE) []
  -- an instruction that counts X down isn't idle, and lines that aren't come to find nothing
  pub x : (layout : Layout) (desk : Desk) → desk.cpu.x ≡ 1 → ¬ Idles layout (DoTree Dex) desk []
  pub stuck : (layout : Layout) (desk : Desk) →
      ¬ Finds desk.cpu.a desk.cpu.y (ran each_one layout NeverTree desk) desk
  -- a desk with 8 in X is at no voice
  pub between : (layout : Layout) (rows voice : ℕ) (s : Playing) (desk : Desk) → desk.cpu.x ≡ 8 →
      ¬ HoldsVoice layout rows voice s desk
  -- of two lines that leave a scope each tells its own conditions, and a body is told where its condition is meant
  pub told : leaves 1 small ≡ (5 ∷ []) ∷ [] ∷ []
  pub body : bodies 5 small ≡ ThenTree (LeaveTree 1) NoneTree ∷ []
  pub no_body : bodies 6 small ≡ []
  pub in_front : front 5 small ≡ ThenTree (DoTree Dex) NoneTree
  -- a first waveform of 0 leaves the mask as it is, a keyoff sets it, and a held gate leaves the block
  pub mask : (layout : Layout) (desk : Desk) → desk.cpu.z ≡ true →
      ¬ Idles layout (part FIRST_MASK 0 NOTE_BEGUN.now) desk []
  pub gate : (layout : Layout) (desk : Desk) → desk.cpu.a ≡ 0xBE →
      ¬ Idles layout (part GATE_NOTE 0 ENTRY_READ.now) desk []
  pub legato : (layout : Layout) (desk : Desk) → desk.cpu.n ≡ true →
      ¬ Idles layout (part LEGATO 0 GATE_CLOSED.now) desk []
  pub no_hard_restart : (layout : Layout) (desk : Desk) → desk.cpu.c ≡ true →
      ¬ Idles layout (part NO_HARD_RESTART 1 GATE_CLOSED.now) desk []
  -- the number from which on instruments hold the gate is that of the instrument, 2, or one more, and so is that for
  -- the envelope; the carry says it
  pub gate_from : ¬ Idles flat (part LEGATO 1 GATE_CLOSED.now) (desk_but GATE_FROM 2 2) []
  pub gate_behind : Idles flat (part LEGATO 1 GATE_CLOSED.now) (desk_but GATE_FROM 3 2) (A ∷ Y ∷ Carry ∷ [])
  pub envelope_from : ¬ Idles flat (part NO_HARD_RESTART 0 GATE_CLOSED.now) (desk_but ENVELOPE_FROM 2 2) (Carry ∷ [])
  pub envelope_behind : Idles flat (part NO_HARD_RESTART 0 GATE_CLOSED.now) (desk_but ENVELOPE_FROM 3 2)
      (A ∷ Y ∷ Carry ∷ [])
  -- with the carry on in front of such a comparison it is off behind it
  pub gate_clears : ¬ Idles flat (part LEGATO 1 GATE_CLOSED.now) (carry_on (desk_but GATE_FROM 3 2)) (Carry ∷ [])
  -- an instrument isn't below its own number, nor told twice where its timer and a number contradict each other
  pub not_below : (rows : ℕ) → ¬ IsBelow flat rows (desk_but GATE_FROM 2 2).at GATE_FROM 2
  pub not_twice : (rows : ℕ) (look : LookUps) → ¬ IsToldTwice flat rows (desk_held 0x42 3 2).at look 2
  -- where the instruments are in order, both together; with no lines for the gate its number isn't read, and with none
  -- for the envelope that one's isn't
  pub ordered : Idles in_order (part HELD_NOTE 0 GATE_CLOSED.now) (desk_held 0 3 3) (Carry ∷ [])
  pub ordered_gate : ¬ Idles in_order (part HELD_NOTE 0 GATE_CLOSED.now) (desk_held 0 2 3) []
  pub ordered_envelope : ¬ Idles in_order (part HELD_NOTE 0 GATE_CLOSED.now) (desk_held 0 3 2) (Carry ∷ [])
  pub no_gate : Idles without_gate (part HELD_NOTE 0 GATE_CLOSED.now) (desk_held 0 2 3) (Carry ∷ [])
  pub no_envelope : Idles without_envelope (part HELD_NOTE 0 GATE_CLOSED.now) (desk_held 0 3 2) (Carry ∷ [])
  -- a timer of $42 or $82 is that of an instrument that holds its gate, or its envelope, exactly by such a number
  pub told_gate : IsTold flat 0x42 2 2
  pub not_gate : ¬ IsTold flat 0x42 3 2
  pub told_envelope : IsTold flat 0x82 3 2
  pub not_envelope : ¬ IsTold flat 0x82 3 3
  pub told_none : IsTold flat 0x3F 3 3
  pub none_holds : ¬ IsTold flat 0x3F 3 2
  pub once : (layout : Layout) (desk : Desk) → desk.cpu.a ≡ 5 →
      ¬ Idles layout (part ROW_ONCE 0 COMMAND_BEGUN.now) desk []
  -- a part that isn't there does nothing of its own, and isn't one that idles
  pub none : (layout : Layout) (desk : Desk) → ¬ Idles layout (part PORTA_UP 1 PORTA_STEP.now) desk []
  -- command 3 of a row leaves, where a note is taken and where the gate is closed before one
  pub tone : (layout : Layout) (desk : Desk) → desk.at ((layout.address NEW_COMMAND + desk.cpu.x) % 65536) ≡ 3 →
      ¬ Idles layout (part ROW_TONE 0 NOTE_TAKEN.now) desk []
  pub tone_next : (layout : Layout) (desk : Desk) → desk.at ((layout.address NEW_COMMAND + desk.cpu.x) % 65536) ≡ 3 →
      ¬ Idles layout (part ROW_TONE 0 GATE_CLOSED.now) desk []
  -- a command of the wave table leaves in front of the waveform's line
  pub special : (layout : Layout) (desk : Desk) → layout.holds WAVE_COMMAND ≡ true → desk.cpu.a ≡ 0xF0 →
      ¬ Idles layout (part SPECIAL_ROW 0 WAVE_STEP.now) desk []
  -- a gateoff timer of $40 leaves the gate, and one of $80 sets the carry
  pub held : (layout : Layout) (rows voice : ℕ) (s : Playing) (desk : Desk) →
      HoldsVoice layout rows voice s desk → layout.holds FIRST_HOLDS ≡ true → layout.holds LEGATO ≡ true →
      IsListed layout rows desk.at GATE_TIMERS s.voice.instrument 0x40 →
      ¬ Idles layout (part HELD_NOTE 0 GATE_CLOSED.now) desk []
  pub held_carry : (layout : Layout) (rows voice : ℕ) (s : Playing) (desk : Desk) →
      HoldsVoice layout rows voice s desk → layout.holds FIRST_HOLDS ≡ true → desk.cpu.c ≡ false →
      IsListed layout rows desk.at GATE_TIMERS s.voice.instrument 0x80 →
      ¬ Idles layout (part HELD_NOTE 0 GATE_CLOSED.now) desk (Carry ∷ [])
  -- a first waveform from $FE on is a mask: it leaves the waveform as it is
  pub mask_alone : (layout : Layout) (desk : Desk) → desk.cpu.z ≡ false → 0xFE ≤ desk.cpu.a →
      ¬ Idles layout (part FIRST_MASK 0 NOTE_BEGUN.now) desk []
  -- a delay of one is stored as 0, and another vibrato than 0 changes A, where a note begins and where a row has no
  -- command
  pub delay : (layout : Layout) (rows voice : ℕ) (s : Playing) (desk : Desk) →
      HoldsVoice layout rows voice s desk → layout.holds INSTRUMENT_VIBRATO ≡ true → s.voice.vib_delay ≡ 0 →
      IsListed layout rows desk.at DELAYS desk.cpu.y 0 →
      ¬ Idles layout (part VIBRATO_DELAY 0 NOTE_TAKEN.now) desk []
  pub vibrato : (layout : Layout) (rows : ℕ) (desk : Desk) → IsListed layout rows desk.at VIBRATOS desk.cpu.y 1 →
      desk.cpu.a ≡ 0 → ¬ Idles layout (part NOTE_VIBRATO 0 NOTE_BEGUN.now) desk (A ∷ [])
  pub row_vibrato : (layout : Layout) (rows : ℕ) (desk : Desk) → IsListed layout rows desk.at VIBRATOS desk.cpu.y 1 →
      desk.cpu.a ≡ 0 → ¬ Idles layout (part NOTE_VIBRATO 0 COMMAND_BEGUN.now) desk (A ∷ [])
  -- a pulse program begins its first row anew, and so does a filter program
  pub pulse : (layout : Layout) (rows voice : ℕ) (s : Playing) (desk : Desk) →
      HoldsVoice layout rows voice s desk → IsListed layout rows desk.at PULSES desk.cpu.y 1 →
      own_at layout desk.at voice PULSE_TIME ≡ 1 → ¬ Idles layout (part NOTE_PULSE 0 PROGRAMS_BEGUN.now) desk []
  pub filter : (layout : Layout) (rows voice : ℕ) (s : Playing) (desk : Desk) →
      HoldsVoice layout rows voice s desk → IsListed layout rows desk.at FILTERS desk.cpu.y 1 →
      shared_at layout desk.at FILTER_TIME ≡ 1 → ¬ Idles layout (part NOTE_FILTER 0 PROGRAMS_BEGUN.now) desk []
  -- a cutoff of 2 is no 0, and neither is a width's high byte; a volume of 2 isn't 15, and a width's low byte isn't 0
  pub cutoff : ¬ Idles flat (part FILTER_USED 0 FILTER_REGISTERS.now) (desk_with 0 0) (A ∷ [])
  pub width_high : ¬ Idles flat (part PULSE_TABLE 2 REGISTERS.now) (desk_with 0 0) (A ∷ [])
  pub volume : ¬ Alike flat (part SET_VOLUME 0 FILTER_REGISTERS.now) (part SET_VOLUME 1 FILTER_REGISTERS.now)
      (desk_with 0 0) []
  pub width_low : ¬ Alike flat (part PULSE_TABLE 0 REGISTERS.now) (part PULSE_TABLE 1 REGISTERS.now) (desk_with 0 0) []
  -- a first waveform of 0 isn't 2; where the voice's timer is 2, another one tells by the zero flag for A 2, and by the
  -- carry for A 5
  pub first_wave : ¬ ShowAlike flat (part OWN_WAVE 0 NOTE_BEGUN.now) (part OWN_WAVE 1 NOTE_BEGUN.now)
      (desk_but ONE_WAVE 0 0) []
  pub same_wave : ShowAlike flat (part OWN_WAVE 0 NOTE_BEGUN.now) (part OWN_WAVE 1 NOTE_BEGUN.now)
      (desk_but ONE_WAVE 2 0) (Y ∷ Carry ∷ [])
  pub timer : ¬ CompareAlike flat (part OWN_TIMER 0 ROW_AWAITED.now) (part OWN_TIMER 1 ROW_AWAITED.now)
      (desk_but ONE_TIMER 1 2)
  pub later_timer : ¬ CompareAlike flat (part OWN_TIMER 0 ROW_AWAITED.now) (part OWN_TIMER 1 ROW_AWAITED.now)
      (desk_but ONE_TIMER 7 5)
  pub same_timer : CompareAlike flat (part OWN_TIMER 0 ROW_AWAITED.now) (part OWN_TIMER 1 ROW_AWAITED.now)
      (desk_but ONE_TIMER 2 5)
  -- a row with command 2 doesn't leave as one without does
  pub bare : ¬ Clears flat (part ROW_COMMAND 0 COMMAND_BEGUN.now) (desk_with 0 0) (Left BARE)
  -- without a row's commands A is 0 only where a command may run, and that load changes it
  pub no_load : ¬ Clears without_effects (part ROW_COMMAND 1 COMMAND_BEGUN.now) (desk_with 1 0) Done
  pub with_load : ¬ Idles flat (part ROW_COMMAND 1 COMMAND_BEGUN.now) (desk_with 1 0) (A ∷ [])
  pub load : ¬ Idles flat (part EFFECTS 0 COMMAND_BEGUN.now) (desk_with 1 0) (A ∷ [])
  -- a voice that has another byte of its orderlist's address than the lists have takes theirs; and A changes
  pub order_low : ¬ Idles flat (part SUBTUNES 0 VOICE_STARTED.now) (desk_but ORDER_LOW 3 0) []
  pub order_high : ¬ Idles flat (part SUBTUNES 0 VOICE_STARTED.now) (desk_but ORDER_HIGH 3 0) []
  pub order_load : ¬ Idles flat (part SUBTUNES 0 VOICE_STARTED.now) (desk_with 0 0) (A ∷ [])
  -- a voice with command 2 goes on to the effect step
  pub runs : ¬ LeavesAll flat (part EFFECTS 0 EFFECT_BEGUN.now) (desk_with 0 0) EFFECTED
  -- a store that isn't named changes a byte, and one that is may change A
  pub stored : ¬ IdlesBut flat [] (part WAVE_DELAY 0 NOTE_BEGUN.now) (desk_with 0 0) []
  pub stored_timer : ¬ IdlesBut flat [] (part OWN_TIMER 0 GATE_TIMER_SET.now) (desk_but GATE_TIMERS 3 0) []
  pub stored_by : ¬ IdlesBut flat (Own VIB_TIME ∷ []) (part SWINGS 0 PITCH.now) (desk_with 1 0) (A ∷ [])
  -- where a note begins both sides store the time of a delay, and change A; but the first one stores the command and
  -- its parameter, too
  pub time : ¬ IdlesBut flat (Own COMMAND ∷ Own PARAM ∷ []) (part EFFECTS 0 NOTE_BEGUN.now) (desk_with 0 0) []
  pub command : ¬ IdlesBut flat (Own WAVE_TIME ∷ Own PARAM ∷ []) (part EFFECTS 0 NOTE_BEGUN.now) (desk_with 0 0) []
  pub note_load : ¬ IdlesBut flat NOTE_STORES (part EFFECTS 0 NOTE_BEGUN.now) (desk_with 1 0) (A ∷ [])
  pub other_time : ¬ IdlesBut flat [] (part EFFECTS 1 NOTE_BEGUN.now) (desk_with 0 0) []
  pub other_load : ¬ IdlesBut flat (Own WAVE_TIME ∷ []) (part WAVE_DELAY 1 NOTE_BEGUN.now) (desk_with 1 0) (A ∷ [])
  pub sides : ¬ LeaveSame flat (Own PARAM ∷ []) (part EFFECTS 0 NOTE_BEGUN.now) (part EFFECTS 1 NOTE_BEGUN.now)
      (desk_with 0 0)
  -- an entry's offset is remembered, or the tick at a pattern's first entry, which clears the command, too; both
  -- compare, which sets the carry; and an entry's parameter is loaded, here 2
  pub first_row : ¬ IdlesBut flat [] (part SKIP_FIRST 0 ENTRY_BEGUN.now) (desk_with 0 3) []
  pub first_load : ¬ IdlesBut flat (Var KEPT_PARAM ∷ []) (part SKIP_FIRST 0 ENTRY_BEGUN.now) (desk_with 0 1) (A ∷ [])
  pub first_carry : ¬ IdlesBut flat (Var KEPT_PARAM ∷ []) (part SKIP_FIRST 0 ENTRY_BEGUN.now) (desk_with 0 2)
      (Carry ∷ [])
  pub no_command : ¬ IdlesBut flat [] (part ROW_COMMAND 0 ENTRY_BEGUN.now) (desk_with 0 1) []
  pub no_carry : ¬ IdlesBut flat (Own NEW_COMMAND ∷ []) (part ROW_COMMAND 0 ENTRY_BEGUN.now) (desk_with 0 2)
      (Carry ∷ [])
  pub param : ¬ IdlesBut flat (Own NEW_PARAM ∷ []) (part ROW_COMMAND 1 ENTRY_READ.now) (desk_with 0 0) (A ∷ [])
  -- A row's command is read under a condition that keeps it: not under none, and not on the other side of a choice. A
  -- store reads none, but what counts up does. Of the pairs each is needed.
  pub read : reads_under KEEPING [] (WithTree Lda (Own NEW_COMMAND)) ≡ false
  pub read_under : reads_under KEEPING (ROW_ONCE ∷ []) (WithTree Lda (Own NEW_COMMAND)) ≡ true
  pub read_else : reads_under KEEPING [] (ChooseTree ROW_COMMAND NoneTree (WithTree Lda (Own NEW_COMMAND))) ≡ false
  pub stores : reads_under KEEPING [] (WithTree Sta (Own WAVE_TIME)) ≡ true
  pub counts : reads_under KEEPING [] (WithTree Inc (Own WAVE_TIME)) ≡ false
  pub no_tone : reads_under ((ROW_ONCE, ROW_COMMAND) ∷ (WAVE_COMMAND, EFFECTS) ∷ []) [] voice_tree ≡ false
  pub no_once : reads_under ((ROW_TONE, ROW_COMMAND) ∷ (WAVE_COMMAND, EFFECTS) ∷ []) [] voice_tree ≡ false
  pub no_lent : reads_under ((ROW_TONE, ROW_COMMAND) ∷ (ROW_ONCE, ROW_COMMAND) ∷ []) [] voice_tree ≡ false
  pub no_filter : reads_under [] [] filter_tree ≡ false
  -- a choice may come to its end where one of its sides may
  pub one_ends : may_end (ChooseTree 5 NoneTree NeverTree) ≡ true
  pub none_ends : may_end (ChooseTree 5 NeverTree NeverTree) ≡ false
