-- What the code's states stand for. A voice in code keeps its place in the orderlist, where the definitions
-- count the plays that it has ended.
use Rattle.std.specs.Prelude.{◌≡◌, ℕ}
use Rattle.song_model.specs.declared.orders.Order.{Order}
use Rattle.song_model.specs.declared.orders.Subtune.{Subtune}
use Rattle.song_model.specs.Places.{place_of}
use Rattle.play_model.specs.declared.states.VoiceState.{VoiceState}
use Rattle.play_model.specs.declared.states.PlayState.{PlayState}
use Rattle.play_model.specs.State.{Voice, FrameState}

-- a voice in code, which has ended this many plays
abbrev pub voice_after : ℕ → VoiceState → Voice
voice_after plays v = record {
  plays = plays;
  row = v.row;
  tick = v.tick;
  gate_timer = v.gate_timer;
  instrument = v.instrument;
  note = v.note;
  new_note = v.new_note;
  new_command = v.new_command;
  new_param = v.new_param;
  command = v.command;
  param = v.param;
  ad = v.ad;
  sr = v.sr;
  vib_time = v.vib_time;
  vib_delay = v.vib_delay;
  wave = v.wave;
  gate = v.gate;
  freq = v.freq;
  last_note = v.last_note;
  wave_ptr = v.wave_ptr;
  wave_time = v.wave_time;
  pulse_ptr = v.pulse_ptr;
  pulse_time = v.pulse_time;
  pulse = v.pulse;
}

-- the voice of a channel with this orderlist: its place is that of the next play, and all else is equal
pub record VoiceStandsFor (order : Order) (state : VoiceState) (v : Voice) : Type 0 where
  pub place : state.place ≡ place_of order v.plays
  pub rest : voice_after v.plays state ≡ v

-- the state of a player of this subtune
pub record StateStandsFor (subtune : Subtune) (state : PlayState) (x : FrameState) : Type 0 where
  pub common : state.common ≡ x.common
  pub one : VoiceStandsFor subtune.one state.one x.one
  pub two : VoiceStandsFor subtune.two state.two x.two
  pub three : VoiceStandsFor subtune.three state.three x.three
