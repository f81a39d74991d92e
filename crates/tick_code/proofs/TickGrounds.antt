-- What the code of the tick step stands on, and where its ways lead.
pub use Rattle.command_code.proofs.Laws.{SpeedAt}
use Rattle.std.proofs.Common.{◌≡◌, ◌≢◌, ℕ, ◌+◌, ◌%◌, ◌<◌, Bool, true, false, nat_eq}
use Rattle.play_model.specs.LookUps.{LookUps}
use Rattle.play_model.specs.State.{Playing}
use Rattle.play_model.specs.TickStep.{Ticked, tick_step}
use Rattle.player_memory.specs.declared.conditions.TheConstants.{NOTE_VIBRATO, VIBRATO_DELAY, NOTE_PULSE, NOTE_FILTER}
use Rattle.player_memory.specs.declared.conditions.TheConstants.{OWN_TIMER, OWN_WAVE}
use Rattle.player_memory.specs.declared.labels.TheConstants.{ADS, SRS, WAVES, PULSES, FILTERS, VIBRATOS, DELAYS}
use Rattle.player_memory.specs.declared.labels.TheConstants.{GATE_TIMERS, FIRST_WAVES, ONE_WAVE}
use Rattle.player_desk.proofs.Laws.{VoiceDesk, Reader, Ways, Lent, Done, Reads, place_at}
use Rattle.player_desk.proofs.VoiceDesks.{Either}
use Rattle.player_text.specs.declared.joints.TheConstants.{SOUNDS}
use Rattle.tick_code.specs.TickBlock.{IsRowDone}

-- ---- what the code stands on

-- the bytes of an instrument, six of them where the lines that read them are kept; of its vibrato's delay one less
-- stands there, and where there is one first waveform for all it is the instrument's
pub record InstrumentAt (r : Reader) (look : LookUps) (number : ℕ) : Type 0 where
  pub ad : Reads r (place_at r ADS number) (look.instrument number).ad
  pub sr : Reads r (place_at r SRS number) (look.instrument number).sr
  pub wave : Reads r (place_at r WAVES number) (look.instrument number).wave
  pub pulse : r.layout.holds NOTE_PULSE ≡ true → Reads r (place_at r PULSES number) (look.instrument number).pulse
  pub filter : r.layout.holds NOTE_FILTER ≡ true → Reads r (place_at r FILTERS number) (look.instrument number).filter
  pub vibrato : r.layout.holds NOTE_VIBRATO ≡ true →
      Reads r (place_at r VIBRATOS number) (look.instrument number).vibrato
  pub delay : r.layout.holds VIBRATO_DELAY ≡ true →
      Reads r (place_at r DELAYS number) (((look.instrument number).vibrato_delay + 255) % 256)
  pub gate_timer : r.layout.holds OWN_TIMER ≡ true →
      Reads r (place_at r GATE_TIMERS number) (look.instrument number).gate_timer
  pub first_wave : r.layout.holds OWN_WAVE ≡ true →
      Reads r (place_at r FIRST_WAVES number) (look.instrument number).first_wave
  pub one_wave : r.layout.holds OWN_WAVE ≡ false →
      Reads r (r.layout.address ONE_WAVE) (look.instrument number).first_wave
  pub gate_timer_byte : (look.instrument number).gate_timer < 256

-- what is read at a row: the voice's instrument, and for command $E the row of the speed table that its parameter names
pub record TickGround (r : Reader) (look : LookUps) (s : Playing) : Type 0 where
  pub instrument : IsRowDone s → InstrumentAt r look s.voice.instrument
  pub speed : IsRowDone s → s.voice.new_command ≡ 0xE → s.voice.new_param ≢ 0 → SpeedAt r look s.voice.new_param
  pub command_byte : s.voice.new_command < 256
  pub param_byte : s.voice.new_param < 256

-- ---- where its ways lead

-- the desk tells what the tick step leaves, and whether a note has started
pub record TickDone (r : Reader) (ticked : Ticked) (started : Bool) (handed : Lent) (d m : VoiceDesk) : Type 0 where
  pub is : ticked.started ≡ started
  pub done : Done r.layout.holds r.voice ticked.playing handed d m

-- the block's end is come to where no note has started, and the voice's step is left where one has
abbrev pub ways_of : Reader → Ticked → Lent → VoiceDesk → Ways
ways_of r ticked handed d = record {
  Done = TickDone r ticked false handed d;
  Left = λ name m. Either (nat_eq name SOUNDS) (TickDone r ticked true handed d m) ⊥;
  Again = λ m. ⊥;
}

abbrev pub tick_ways : Reader → LookUps → Playing → Lent → VoiceDesk → Ways
tick_ways r look s handed d = ways_of r (tick_step (r.voice + 1) look s) handed d
