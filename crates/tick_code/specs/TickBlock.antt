-- The code of the tick step, and what it does. This is the project's own player.
use Rattle.std.specs.Prelude.{◌≡◌, ◌≢◌, ℕ, ◌+◌, ◌%◌, ◌<◌, ◌≤◌, Bool, true, false}
use Rattle.song_model.specs.declared.instruments.Instrument.{Instrument}
use Rattle.song_model.specs.declared.tables.TableName.TheVariants.{Speed}
use Rattle.song_facts.specs.Facts.{IsMask, HasVibrato, HasVibratoDelay, HasPulse, HasFilter}
use Rattle.play_model.specs.LookUps.{LookUps}
use Rattle.play_model.specs.Wrap.{byte_minus}
use Rattle.play_model.specs.State.{Voice, Playing}
use Rattle.play_model.specs.TickStep.{Ticked, tempo_of, tick_step}
use Rattle.scopes.specs.Desk.{Desk, Layout}
use Rattle.scopes.specs.Trees.{Tree, NoneTree, ThenTree, ScopeTree}
use Rattle.scopes.specs.Meaning.{Outcome, Done, Left, Ran, each_one, ran}
use Rattle.scope_lines.specs.Reach.{nothing_around, has_lines}
use Rattle.scope_lines.specs.Sizes.{size}
use Rattle.player_memory.specs.declared.conditions.TheConstants.{FUNK_TEMPO, ROW_TONE, ROW_SLIDE, ROW_ONCE}
use Rattle.player_memory.specs.declared.conditions.TheConstants.{FIRST_MASK, NOTE_VIBRATO, VIBRATO_DELAY, NOTE_PULSE}
use Rattle.player_memory.specs.declared.conditions.TheConstants.{NOTE_FILTER, OWN_TIMER, OWN_WAVE}
use Rattle.player_memory.specs.declared.labels.TheConstants.{ADS, SRS, WAVES, PULSES, FILTERS, VIBRATOS, DELAYS}
use Rattle.player_memory.specs.declared.labels.TheConstants.{GATE_TIMERS, FIRST_WAVES, SPEED_LEFTS, SPEED_RIGHTS}
use Rattle.player_memory.specs.declared.labels.TheConstants.{ONE_WAVE}
use Rattle.player_memory.specs.Commands.{condition_of, AreKept, KeepsTempo}
use Rattle.player_memory.specs.FactLines.{KeepsShared}
use Rattle.player_memory.specs.Rooms.{IsRoom, MayUse}
use Rattle.player_text.specs.declared.joints.TheConstants.{SOUNDS, TICKED}
use Rattle.player_text.specs.Steps.{tick_tree as step_tree}
use Rattle.player_memory.specs.Playing.{IsListed, IsAlone, IsTable, IsPlaying, IsAtVoice, Plays, there}

-- ---- its lines

-- the block, whose end is where no note has started
abbrev pub tick_tree : Tree
tick_tree = ThenTree (ScopeTree TICKED step_tree) NoneTree

-- In a scope that it leaves where a note has started it has lines; they take 381 bytes where all are kept, and 74
-- where none are that stand under a condition.
pub record TickBlockHasLines : Type 0 where
  pub has : has_lines nothing_around (ScopeTree SOUNDS tick_tree) ≡ true
  pub all : size (λ condition. true) tick_tree ≡ 381
  pub least : size (λ condition. false) tick_tree ≡ 74

-- ---- what is kept

-- the row is done: the tick falls to 0
abbrev pub IsRowDone : Playing → Type 0
IsRowDone s = byte_minus s.voice.tick 1 ≡ 0

-- the lines of a row's command are kept
abbrev pub KeepsCommand : Layout → ℕ → ℕ → Type 0
KeepsCommand layout command param = AreKept layout (condition_of command param)

-- and so are those that tell whether it slides to its note, runs or is done once
pub record KeepsRow (layout : Layout) (command : ℕ) : Type 0 where
  pub tone : command ≡ 3 → layout.holds ROW_TONE ≡ true
  pub slide : 1 ≤ command → command ≤ 4 → layout.holds ROW_SLIDE ≡ true
  pub once : 5 ≤ command → layout.holds ROW_ONCE ≡ true

-- and those of what a note takes from its instrument: a first waveform that is a mask, a vibrato, its delay, of which
-- some may be left from the note before, and programs
pub record KeepsInstrument (layout : Layout) (i : Instrument) (left : ℕ) : Type 0 where
  pub mask : IsMask i → layout.holds FIRST_MASK ≡ true
  pub vibrato : HasVibrato i → layout.holds NOTE_VIBRATO ≡ true
  pub delay : HasVibratoDelay i → layout.holds VIBRATO_DELAY ≡ true
  pub waits : left ≢ 0 → layout.holds VIBRATO_DELAY ≡ true
  pub pulse : HasPulse i → layout.holds NOTE_PULSE ≡ true
  pub filter : HasFilter i → layout.holds NOTE_FILTER ≡ true

-- Where the row is done the lines of its command are kept, and those of the instrument; and where the tick falls below
-- 0 those of the funk tempos, if the tempo is 0 or 1. What commands have in common is kept with each.
pub record KeepsTick (layout : Layout) (channel : ℕ) (look : LookUps) (s : Playing) : Type 0 where
  pub command : IsRowDone s → KeepsCommand layout s.voice.new_command s.voice.new_param
  pub row : IsRowDone s → KeepsRow layout s.voice.new_command
  pub tempo : IsRowDone s → KeepsTempo layout s.voice.new_command s.voice.new_param
  pub instrument : IsRowDone s → KeepsInstrument layout (look.instrument s.voice.instrument) s.voice.vib_delay
  pub length : 0x80 ≤ byte_minus s.voice.tick 1 → tempo_of channel s.common < 2 → layout.holds FUNK_TEMPO ≡ true
  pub shared : KeepsShared layout

-- ---- what is read

-- An instrument's bytes stand in nine lists, of which the player has six only where it keeps the lines that read them.
-- Its vibrato's delay stands there less one, 255 for none, and its gateoff timer with all bits.
pub record HasInstrument (layout : Layout) (rows : ℕ) (at : ℕ → ℕ) (look : LookUps) (number : ℕ) : Type 0 where
  pub ad : IsListed layout rows at ADS number (look.instrument number).ad
  pub sr : IsListed layout rows at SRS number (look.instrument number).sr
  pub wave : IsListed layout rows at WAVES number (look.instrument number).wave
  pub pulse : layout.holds NOTE_PULSE ≡ true →
      IsListed layout rows at PULSES number (look.instrument number).pulse
  pub filter : layout.holds NOTE_FILTER ≡ true →
      IsListed layout rows at FILTERS number (look.instrument number).filter
  pub vibrato : layout.holds NOTE_VIBRATO ≡ true →
      IsListed layout rows at VIBRATOS number (look.instrument number).vibrato
  pub delay : layout.holds VIBRATO_DELAY ≡ true →
      IsListed layout rows at DELAYS number (((look.instrument number).vibrato_delay + 255) % 256)
  pub gate_timer : layout.holds OWN_TIMER ≡ true →
      IsListed layout rows at GATE_TIMERS number (look.instrument number).gate_timer
  pub first_wave : layout.holds OWN_WAVE ≡ true →
      IsListed layout rows at FIRST_WAVES number (look.instrument number).first_wave
  pub gate_timer_byte : (look.instrument number).gate_timer < 256

-- the first instruments, and the rows of the speed table
pub record HasTickLists (layout : Layout) (rows : ℕ) (at : ℕ → ℕ) (look : LookUps) (instruments speeds : ℕ)
    : Type 0 where
  pub instrument : (number : ℕ) → 1 ≤ number → number ≤ instruments → HasInstrument layout rows at look number
  pub speed : IsTable layout rows at SPEED_LEFTS SPEED_RIGHTS speeds (look.row Speed)

-- where the lines for first waveforms of their own aren't kept, one stands alone for all instruments: this one's
abbrev pub HasOneWave : Layout → ℕ → (ℕ → ℕ) → Instrument → Type 0
HasOneWave layout rows at i = layout.holds OWN_WAVE ≡ false → IsAlone layout rows at ONE_WAVE i.first_wave

-- the voice has one of the instruments; its row's command and parameter are bytes, and that of command $E is 0 or names
-- a row of the speed table
pub record IsInLists (instruments speeds : ℕ) (v : Voice) : Type 0 where
  pub from : 1 ≤ v.instrument
  pub to : v.instrument ≤ instruments
  pub command : v.new_command < 256
  pub param : v.new_param < 256
  pub speed : v.new_command ≡ 0xE → v.new_param ≤ speeds

-- ---- what it does

-- the way that the block takes: out of the voice's step where a note has started, else to its own end
abbrev pub way_of : Bool → Outcome
way_of true = Left SOUNDS
way_of false = Done

-- it takes that way, and holds there what the tick step leaves
pub record Ticks (layout : Layout) (rows voice : ℕ) (before : Desk) (run : Ran) (ticked : Ticked) : Type 0 where
  pub way : run.outcome ≡ way_of ticked.started
  pub plays : Plays layout rows voice before (there run) ticked.playing

-- In any memory that holds a voice that is playing, the code does the tick step.
abbrev pub TickBlockSteps : Type 0
TickBlockSteps =
    (layout : Layout) (rows voice instruments speeds : ℕ) (look : LookUps) (s : Playing) (desk : Desk) →
    IsRoom layout rows → MayUse layout rows → HasTickLists layout rows desk.at look instruments speeds → voice < 3 →
    IsAtVoice voice desk → IsPlaying layout voice s desk.at → IsInLists instruments speeds s.voice →
    KeepsTick layout (voice + 1) look s →
    (IsRowDone s → HasOneWave layout rows desk.at (look.instrument s.voice.instrument)) →
    Ticks layout rows voice desk (ran each_one layout tick_tree desk) (tick_step (voice + 1) look s)
