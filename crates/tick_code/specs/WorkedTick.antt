-- A row is done as it is worked by hand, in a memory that meets what the clause asks for; at what that ends; and what
-- doing the row isn't.
use Rattle.std.specs.Prelude.{◌≡◌, ℕ, ◌+◌, ◌*◌, ◌≤◌, List, [], ◌∷◌, ◌==◌, ◌||◌, nat_lt}
use Rattle.std.specs.Prelude.{nat_eq, if◌then◌else◌, true, false}
use Rattle.song_model.specs.declared.instruments.Instrument.{Instrument}
use Rattle.code_runs.specs.Runs.{put}
use Rattle.play_model.specs.LookUps.{LookUps}
use Rattle.play_model.specs.State.{Voice, Playing, start_voice, start_common}
use Rattle.play_model.specs.TickStep.{tick_step}
use Rattle.scopes.specs.Desk.{Desk, Layout}
use Rattle.scopes.specs.Meaning.{Outcome, Done, Left, Ran, each_one, ran}
use Rattle.player_memory.specs.declared.conditions.TheConstants.{SET_AD, SET_SR, SET_WAVE, SET_WAVE_POINTER}
use Rattle.player_memory.specs.declared.conditions.TheConstants.{SET_PULSE_POINTER, SET_FILTER_POINTER}
use Rattle.player_memory.specs.declared.conditions.TheConstants.{SET_FILTER_CONTROL, SET_CUTOFF, SET_VOLUME, FUNK_TEMPO}
use Rattle.player_memory.specs.declared.conditions.TheConstants.{VOICE_TEMPO, FUNK_TURNS, FUNK_CHOICE}
use Rattle.player_memory.specs.declared.conditions.TheConstants.{SET_TEMPO, ROW_SLIDE, ROW_ONCE, ROW_COMMAND}
use Rattle.player_memory.specs.declared.conditions.TheConstants.{VIBRATO_DELAY, NOTE_FILTER, NOTE_PULSE, NOTE_VIBRATO}
use Rattle.player_memory.specs.declared.conditions.TheConstants.{OWN_TIMER, OWN_WAVE}
use Rattle.player_memory.specs.declared.labels.TheConstants.{VARIABLES, TICK, GATE_TIMER, INSTRUMENT, NOTE, NEW_NOTE}
use Rattle.player_memory.specs.declared.labels.TheConstants.{NEW_COMMAND, NEW_PARAM, AD, VIB_DELAY, WAVE, GATE, TEMPO}
use Rattle.player_memory.specs.declared.labels.TheConstants.{FILTER_POINTER, VOLUME, FUNK_ONE, FUNK_TWO, ADS, SRS}
use Rattle.player_memory.specs.declared.labels.TheConstants.{WAVES, FILTERS, DELAYS, GATE_TIMERS, ONE_WAVE}
use Rattle.player_memory.specs.Rooms.{IsRoom, MayUse}
use Rattle.player_memory.specs.Playing.{own_at, shared_at, IsPlaying, IsAtVoice}
use Rattle.player_text.specs.declared.joints.TheConstants.{SOUNDS, TICKED}
use Rattle.tick_code.specs.TickBlock.{tick_tree, HasInstrument, HasTickLists, HasOneWave, IsInLists}
use Rattle.tick_code.specs.TickBlock.{KeepsCommand, KeepsRow}
use Rattle.tick_code.specs.TickBlock.{KeepsTick, Ticks}

-- ---- the memory

-- the variables from $1000 on, and the lists far behind them; of what a song may ask for, commands that set the
-- tempo of a voice are kept, and an instrument's vibrato delay, filter program and gateoff timer
abbrev pub laid : Layout
laid = record {
  address = λ label. if nat_lt label VARIABLES then 0x1000 + label else 0x2000 + 16 * label;
  pointer = 0xFC;
  holds = λ condition. condition == SET_TEMPO || condition == VOICE_TEMPO || condition == ROW_ONCE
      || condition == ROW_COMMAND || condition == VIBRATO_DELAY || condition == NOTE_FILTER || condition == OWN_TIMER;
  open_turns = 255;
  may_read = λ place. true;
  may_write = λ place. true;
}

abbrev pub sound : Instrument
sound = record {
  ad = 0x12;
  sr = 0x34;
  wave = 1;
  pulse = 0;
  filter = 2;
  vibrato = 0;
  vibrato_delay = 3;
  gate_timer = 0x42;
  first_wave = 9;
  name = [];
}

abbrev pub look : LookUps
look = record {
  instrument = λ number. sound;
  row = λ name number. record { left = 0; right = 0 };
  rows = λ number. [];
}

-- the second voice, a frame before its row is done, with note $70 waiting and a command $F for this voice alone
abbrev pub waiting : Playing
waiting = record {
  voice = record start_voice { new_note = 0x70; new_command = 0xF; new_param = 0x84 };
  common = start_common 1;
}

abbrev pub stored : List (ℕ × ℕ) → ℕ → ℕ
stored [] place = 0
stored (row ∷ rows) place = if nat_eq place row.0 then row.1 else stored rows place

-- the bytes that aren't 0: of the voice, of all voices, and of the instrument
abbrev pub memory : ℕ → ℕ
memory = stored ((laid.address (TICK + 7), 1) ∷ (laid.address (INSTRUMENT + 7), 1) ∷ (laid.address (NEW_NOTE + 7), 0x70)
    ∷ (laid.address (NEW_COMMAND + 7), 0xF) ∷ (laid.address (NEW_PARAM + 7), 0x84)
    ∷ (laid.address (VIB_DELAY + 7), 255) ∷ (laid.address (GATE + 7), 0xFE) ∷ (laid.address TEMPO, 5)
    ∷ (laid.address (TEMPO + 7), 5) ∷ (laid.address (TEMPO + 14), 5) ∷ (laid.address VOLUME, 15)
    ∷ (laid.address FUNK_ONE, 8) ∷ (laid.address FUNK_TWO, 5) ∷ (laid.address ADS + 1, 0x12)
    ∷ (laid.address SRS + 1, 0x34) ∷ (laid.address WAVES + 1, 1) ∷ (laid.address FILTERS + 1, 2)
    ∷ (laid.address DELAYS + 1, 2) ∷ (laid.address GATE_TIMERS + 1, 0x42) ∷ (laid.address ONE_WAVE, 9) ∷ [])

abbrev pub desk : Desk
desk = record {
  cpu = record {
    a = 0;
    x = 7;
    y = 0;
    sp = 0;
    pc = 0;
    n = false;
    v = false;
    d = false;
    i = false;
    z = false;
    c = false;
  };
  at = memory;
}

-- ---- what is worked

-- it is all that the clause asks for
pub record IsMet : Type 0 where
  pub room : IsRoom laid 1
  pub uses : MayUse laid 1
  pub lists : HasTickLists laid 1 memory look 1 0
  pub at_voice : IsAtVoice 1 desk
  pub playing : IsPlaying laid 1 waiting memory
  pub at_row : IsInLists 1 0 waiting.voice
  pub keeps : KeepsTick laid 2 look waiting
  pub one_wave : HasOneWave laid 1 memory sound

abbrev pub done : Ran
done = ran each_one laid tick_tree desk

-- a note has started: it is note $10, and the sound is the instrument's; this voice's tempo alone is set
pub record IsWorked : Type 0 where
  pub way : done.outcome ≡ Left SOUNDS
  pub tick : own_at laid done.desk.at 1 TICK ≡ 0
  pub note : own_at laid done.desk.at 1 NOTE ≡ 0x10
  pub new_note : own_at laid done.desk.at 1 NEW_NOTE ≡ 0
  pub gate_timer : own_at laid done.desk.at 1 GATE_TIMER ≡ 2
  pub delay : own_at laid done.desk.at 1 VIB_DELAY ≡ 2
  pub wave : own_at laid done.desk.at 1 WAVE ≡ 9
  pub gate : own_at laid done.desk.at 1 GATE ≡ 0xFF
  pub ad : own_at laid done.desk.at 1 AD ≡ 0x12
  pub filter : shared_at laid done.desk.at FILTER_POINTER ≡ 2
  pub tempo : own_at laid done.desk.at 1 TEMPO ≡ 3
  pub another_tempo : own_at laid done.desk.at 2 TEMPO ≡ 5

-- ---- where what is asked for ends

-- a layout that keeps no line under a condition
abbrev pub bare : Layout
bare = record laid { holds = λ condition. false }

-- that one, and one line
abbrev pub with_one : ℕ → Layout
with_one kept = record laid { holds = λ condition. condition == kept }

-- a voice at a row with this command
abbrev pub with_command : ℕ → ℕ → Voice
with_command command param = record start_voice { new_command = command; new_param = param }

-- no line is kept for a command that runs, nor for a command $F that sets nothing; for each other its own alone
pub record CommandsAreKept : Type 0 where
  pub runs : (command param : ℕ) → command ≤ 4 → KeepsCommand bare command param
  pub idle : KeepsCommand bare 0xF 2
  pub idle_up : KeepsCommand bare 0xF 0x80
  pub idle_last : KeepsCommand bare 0xF 0x82
  pub ad : KeepsCommand (with_one SET_AD) 5 0
  pub sr : KeepsCommand (with_one SET_SR) 6 0
  pub wave : KeepsCommand (with_one SET_WAVE) 7 0
  pub wave_pointer : KeepsCommand (with_one SET_WAVE_POINTER) 8 0
  pub pulse_pointer : KeepsCommand (with_one SET_PULSE_POINTER) 9 0
  pub filter_pointer : KeepsCommand (with_one SET_FILTER_POINTER) 0xA 0
  pub filter_control : KeepsCommand (with_one SET_FILTER_CONTROL) 0xB 0
  pub cutoff : KeepsCommand (with_one SET_CUTOFF) 0xC 0
  pub volume : KeepsCommand (with_one SET_VOLUME) 0xD 0
  pub funk : KeepsCommand (with_one FUNK_CHOICE) 0xE 0
  pub funk_chosen : KeepsCommand (with_one FUNK_TURNS) 0xF 1
  pub length : KeepsCommand (with_one SET_TEMPO) 0xF 3

-- Between rows no line is kept, but for the tempos 0 and 1 where a length is loaded: the tick is 0 there, and falls
-- below.
abbrev pub loading : ℕ → Playing
loading tempo = record {
  voice = record (with_command 5 0) { tick = 0 };
  common = record (start_common 1) { tempo_two = tempo };
}

pub record LengthsAreKept : Type 0 where
  pub goes_on : KeepsTick bare 2 look (record (loading 0) { voice = record (with_command 5 0) { tick = 2 } })
  pub two : KeepsTick bare 2 look (loading 2)
  pub one : KeepsTick (with_one FUNK_TEMPO) 2 look (loading 1)

-- a voice whose row is done, without a command
abbrev pub at_end : Playing
at_end = record { voice = record (with_command 0 0) { tick = 1 }; common = start_common 1 }

-- one with a command $F for this voice alone, and a layout that keeps what is done once and sets a tempo, and one line
abbrev pub at_tempo : Playing
at_tempo = record { voice = record (with_command 0xF 0x84) { tick = 1 }; common = start_common 1 }

abbrev pub with_setting : ℕ → Layout
with_setting kept = record laid {
  holds = λ condition. condition == SET_TEMPO || condition == ROW_ONCE || condition == ROW_COMMAND || condition == kept;
}

-- an instrument that asks for nothing, and a song of one instrument
abbrev pub plain : Instrument
plain = record sound { vibrato_delay = 0; filter = 0 }

abbrev pub with_instrument : Instrument → LookUps
with_instrument i = record look { instrument = λ number. i }

-- Of a row without a command no line is kept; a slide to the note, a command that runs and one that is done once ask
-- for theirs. So do, where the row is done, a tempo of this voice alone, a first waveform that is a mask, a vibrato,
-- its delay, also one that is left from the note before, and the programs.
pub record RowsAreKept : Type 0 where
  pub none : KeepsRow bare 0
  pub tone : ¬ KeepsRow (with_one ROW_SLIDE) 3
  pub slide : ¬ KeepsRow (with_one ROW_ONCE) 1
  pub last_slide : ¬ KeepsRow (with_one ROW_ONCE) 4
  pub once : ¬ KeepsRow (with_one ROW_SLIDE) 5
  pub waveform : KeepsTick bare 2 (with_instrument (record plain { first_wave = 0xFD })) at_end
  pub mask : ¬ KeepsTick bare 2 (with_instrument (record plain { first_wave = 0xFE })) at_end
  pub nothing : ¬ KeepsTick bare 2 (with_instrument (record plain { first_wave = 0 })) at_end
  pub vibrato : ¬ KeepsTick bare 2 (with_instrument (record plain { vibrato = 1 })) at_end
  pub delay : ¬ KeepsTick bare 2 (with_instrument (record plain { vibrato_delay = 1 })) at_end
  pub waits :
      ¬ KeepsTick bare 2 (with_instrument plain) (record at_end { voice = record at_end.voice { vib_delay = 1 } })
  pub pulse : ¬ KeepsTick bare 2 (with_instrument (record plain { pulse = 1 })) at_end
  pub filter : ¬ KeepsTick bare 2 (with_instrument (record plain { filter = 1 })) at_end
  pub tempo : ¬ KeepsTick (with_setting ROW_COMMAND) 2 (with_instrument plain) at_tempo
  pub kept_tempo : KeepsTick (with_setting VOICE_TEMPO) 2 (with_instrument plain) at_tempo
  pub shared : ¬ KeepsTick (with_one ROW_ONCE) 2 (with_instrument plain) at_end

-- the last of 63 instruments; and command $E with the last of 255 rows, or with none where there is no row
pub record ListsAreMet : Type 0 where
  pub last : IsInLists 63 0 (record (with_command 5 255) { instrument = 63 })
  pub last_row : IsInLists 1 255 (with_command 0xE 255)
  pub no_row : IsInLists 1 0 (with_command 0xE 0)

-- the sound with other bytes than those in the memory where no line is kept that reads them
abbrev pub unread_sound : Instrument
unread_sound = record sound { pulse = 7; vibrato = 8; first_wave = 7 }

-- That instrument is there, too. Where its line is kept, its pulse program isn't, nor its vibrato, nor its first
-- waveform; nor is one with another filter program, another delay or another gateoff timer, or, where one first waveform
-- stands alone, with another one.
pub record FieldsAreRead : Type 0 where
  pub unread : HasInstrument laid 1 memory (with_instrument unread_sound) 1
  pub pulse : ¬ HasInstrument (with_one NOTE_PULSE) 1 memory (with_instrument unread_sound) 1
  pub vibrato : ¬ HasInstrument (with_one NOTE_VIBRATO) 1 memory (with_instrument unread_sound) 1
  pub filter : ¬ HasInstrument laid 1 memory (with_instrument (record sound { filter = 7 })) 1
  pub delay : ¬ HasInstrument laid 1 memory (with_instrument (record sound { vibrato_delay = 7 })) 1
  pub timer : ¬ HasInstrument laid 1 memory (with_instrument (record sound { gate_timer = 2 })) 1
  pub wave : ¬ HasInstrument (with_one OWN_WAVE) 1 memory (with_instrument unread_sound) 1
  pub one_wave : ¬ HasOneWave laid 1 memory unread_sound
  pub own_wave : HasOneWave (with_one OWN_WAVE) 1 memory unread_sound

-- ---- what it isn't

-- the block's run from there, with another way or another memory
abbrev pub Accepts : Outcome → (ℕ → ℕ) → Type 0
Accepts way at =
    Ticks laid 1 1 desk (record done { outcome = way; desk = record done.desk { at = at } })
    (tick_step 2 look waiting)

-- a note that has started leaves the voice's step, by no other way, and each byte as the rule has it
pub record OthersAreDenied : Type 0 where
  pub goes_on : ¬ Accepts Done done.desk.at
  pub elsewhere : ¬ Accepts (Left TICKED) done.desk.at
  pub gate : ¬ Accepts (Left SOUNDS) (put done.desk.at (laid.address (GATE + 7)) 0xFE)
  pub place : ¬ Accepts (Left SOUNDS) (put done.desk.at 0x3000 1)

pub record TickIsWorked : Type 0 where
  pub met : IsMet
  pub worked : IsWorked
  pub commands : CommandsAreKept
  pub lengths : LengthsAreKept
  pub rows : RowsAreKept
  pub lists : ListsAreMet
  pub fields : FieldsAreRead
  pub others : OthersAreDenied
