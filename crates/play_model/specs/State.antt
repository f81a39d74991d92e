-- What the playroutine keeps from one frame to the next, with the values at the start.
use Rattle.std.specs.Prelude.{ℕ, ◌-◌, ◌*◌, false, ◌==◌, if◌then◌else◌}
use Rattle.play_model.specs.declared.options.Options.{Options}
use Rattle.play_model.specs.declared.options.System.TheVariants.{Pal}
use Rattle.play_model.specs.declared.states.CommonState.{CommonState}

-- what each voice keeps
pub record Voice : Type 0 where
  -- how many plays of its orderlist it has ended, and the row in the pattern of the play that is on
  pub plays : ℕ
  pub row : ℕ
  -- frames until the next row, and how many before it the row is fetched
  pub tick : ℕ
  pub gate_timer : ℕ
  pub instrument : ℕ
  -- the note that sounds, and the one that waits, 0 for none
  pub note : ℕ
  pub new_note : ℕ
  -- what the fetched row says
  pub new_command : ℕ
  pub new_param : ℕ
  -- what runs in each frame
  pub command : ℕ
  pub param : ℕ
  pub ad : ℕ
  pub sr : ℕ
  pub vib_time : ℕ
  pub vib_delay : ℕ
  -- the waveform, and the mask $FE or $FF that goes over it
  pub wave : ℕ
  pub gate : ℕ
  pub freq : ℕ
  -- the note whose half tone a speed may be taken from
  pub last_note : ℕ
  pub wave_ptr : ℕ
  pub wave_time : ℕ
  pub pulse_ptr : ℕ
  pub pulse_time : ℕ
  pub pulse : ℕ

-- what the three voices share
abbrev pub Common : Type 0
Common = CommonState

pub record FrameState : Type 0 where
  pub common : Common
  pub one : Voice
  pub two : Voice
  pub three : Voice

-- a voice at its step, with what the voices share as it stands then
pub record Playing : Type 0 where
  pub voice : Voice
  pub common : Common

abbrev pub start_voice : Voice
start_voice = record {
  plays = 0;
  row = 0;
  tick = 1;
  gate_timer = 0;
  instrument = 1;
  note = 0;
  new_note = 0;
  new_command = 0;
  new_param = 0;
  command = 0;
  param = 0;
  ad = 0;
  sr = 0;
  vib_time = 0;
  vib_delay = 0;
  wave = 0;
  gate = 0xFE;
  freq = 0;
  last_note = 0;
  wave_ptr = 0;
  wave_time = 0;
  pulse_ptr = 0;
  pulse_time = 0;
  pulse = 0;
}

-- nothing is left out, at so many play calls in the time of a picture of the PAL system
abbrev pub at_speed : ℕ → Options
at_speed speed =
    record { skip_effects = false; skip_pulse = false; skip_first = false; speed = speed; system = Pal }

-- the same at one play call
abbrev pub no_options : Options
no_options = at_speed 1

-- at the start a row lasts as long at each speed: 6 pictures, or 9 and 6 in turn
abbrev pub start_common : ℕ → Common
start_common speed = record {
  tempo_one = 6 * speed - 1;
  tempo_two = 6 * speed - 1;
  tempo_three = 6 * speed - 1;
  funk_one = 9 * speed - 1;
  funk_two = 6 * speed - 1;
  filter_ptr = 0;
  filter_time = 0;
  filter_type = 0;
  filter_control = 0;
  cutoff = 0;
  volume = 15;
}

abbrev pub start_state : Options → FrameState
start_state o =
    record { common = start_common o.speed; one = start_voice; two = start_voice; three = start_voice }

-- what the step of channel 1, 2 or 3 takes from a state
abbrev pub voice_of : ℕ → FrameState → Voice
voice_of channel x = if channel == 1 then x.one else if channel == 2 then x.two else x.three

abbrev pub playing_of : ℕ → FrameState → Playing
playing_of channel x = record { voice = voice_of channel x; common = x.common }

-- and what it puts back
abbrev pub with_playing : ℕ → Playing → FrameState → FrameState
with_playing channel s x =
    if channel == 1 then record x { one = s.voice; common = s.common }
    else if channel == 2 then record x { two = s.voice; common = s.common }
    else record x { three = s.voice; common = s.common }
