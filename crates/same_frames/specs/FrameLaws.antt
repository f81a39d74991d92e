-- Look-ups that agree with a song up to new numbers play the song: each rule of a frame keeps states alike, and frames
-- of states that are alike have the same registers.
use Rattle.std.specs.Prelude.{◌≡◌, ℕ, zero, suc, ◌<◌, List, length, replicate}
use Rattle.song_model.specs.declared.orders.Order.{Order}
use Rattle.song_model.specs.declared.orders.Subtune.{Subtune}
use Rattle.song_model.specs.declared.songs.Song.{Song}
use Rattle.song_model.specs.Limits.{KeepsLimits}
use Rattle.song_model.specs.LookUp.{playable_subtunes}
use Rattle.play_model.specs.declared.options.Options.{Options}
use Rattle.play_model.specs.Speeds.{IsSpeed}
use Rattle.play_model.specs.LookUps.{LookUps, look_ups_of}
use Rattle.play_model.specs.State.{Voice, Common, FrameState, Playing, start_voice, start_common, start_state}
use Rattle.play_model.specs.FilterStep.{filter_step}
use Rattle.play_model.specs.TickStep.{Ticked, tick_step}
use Rattle.play_model.specs.WaveStep.{Waved, wave_step}
use Rattle.play_model.specs.EffectStep.{effect_step}
use Rattle.play_model.specs.PulseStep.{pulse_step}
use Rattle.play_model.specs.FetchRow.{fetch_row}
use Rattle.play_model.specs.Frame.{Framed, voice_step, filter_done, voice_done, frame_of, frame_with, trace_with, subtune_at}
use Rattle.play_model.specs.Used.{IsChannel, IsPlayedOrder}
use Rattle.play_model.specs.Playable.{IsPlayable}
use Rattle.same_frames.specs.Maps.{Maps, same_numbers}
use Rattle.same_frames.specs.Agreement.{Agrees, PlaysFor, SubtunePlaysFor}
use Rattle.same_frames.specs.Alike.{VoicesAreAlike, CommonsAreAlike, PlayingsAreAlike, StatesAreAlike}

-- ---- frames over any look-ups

-- the state after n frames
unfoldable pub state_after_of : Options → LookUps → Subtune → ℕ → FrameState
state_after_of o look subtune zero = start_state o
state_after_of o look subtune (suc n) = (frame_of o look subtune (state_after_of o look subtune n)).state

-- the registers after call i: call 0 is init, which writes zeros, and each other call plays a frame
abbrev pub trace_of : Options → LookUps → Subtune → ℕ → List ℕ
trace_of o look subtune zero = replicate 25 0
trace_of o look subtune (suc n) = (frame_of o look subtune (state_after_of o look subtune n)).registers

-- over a song's own look-ups it is the song's trace
abbrev pub TracesOfSongs : Type 0
TracesOfSongs = (o : Options) (song : Song) (k i : ℕ) →
    trace_of o (look_ups_of song) (subtune_at song k) i ≡ trace_with o song k i

-- the start, but that each voice begins with this instrument
abbrev pub start_with : Options → ℕ → FrameState
start_with o i =
    let voice = record start_voice { instrument = i } in
    record { common = start_common o.speed; one = voice; two = voice; three = voice }

-- the state after n frames from this one on
unfoldable pub state_from : Options → LookUps → Subtune → FrameState → ℕ → FrameState
state_from o look subtune x zero = x
state_from o look subtune x (suc n) = (frame_of o look subtune (state_from o look subtune x n)).state

-- the registers after call i, where the first frame begins with this state
abbrev pub trace_from : Options → LookUps → Subtune → FrameState → ℕ → List ℕ
trace_from o look subtune x zero = replicate 25 0
trace_from o look subtune x (suc n) = (frame_of o look subtune (state_from o look subtune x n)).registers

-- ---- agreement

-- without new numbers a song's own look-ups agree with it
abbrev pub SongsAgreeWithThemselves : Type 0
SongsAgreeWithThemselves =
    (song : Song) → KeepsLimits song → IsPlayable song → Agrees same_numbers song (look_ups_of song)

-- ---- rules

pub record TicksAreAlike (maps : Maps) (song : Song) (order : Order) (t other : Ticked) : Type 0 where
  pub playing : PlayingsAreAlike maps song order t.playing other.playing
  pub started : other.started ≡ t.started

pub record WavesAreAlike (maps : Maps) (song : Song) (order : Order) (w other : Waved) : Type 0 where
  pub playing : PlayingsAreAlike maps song order w.playing other.playing
  pub effect : other.effect ≡ w.effect

-- the rules of a voice, where the song plays this orderlist and the other look-ups that one
pub record VoiceRulesKeepAlike (maps : Maps) (song : Song) (other : LookUps) (order played : Order) : Type 0 where
  pub tick : (channel : ℕ) (s t : Playing) → PlayingsAreAlike maps song order s t →
      TicksAreAlike maps song order (tick_step channel (look_ups_of song) s) (tick_step channel other t)
  pub wave : (s t : Playing) → PlayingsAreAlike maps song order s t →
      WavesAreAlike maps song order (wave_step (look_ups_of song) s) (wave_step other t)
  pub effect : (v w : Voice) → VoicesAreAlike maps song order v w →
      VoicesAreAlike maps song order (effect_step (look_ups_of song) v) (effect_step other w)
  pub pulse : (v w : Voice) → VoicesAreAlike maps song order v w →
      VoicesAreAlike maps song order (pulse_step (look_ups_of song) v) (pulse_step other w)
  pub fetch : (v w : Voice) → VoicesAreAlike maps song order v w →
      VoicesAreAlike maps song order (fetch_row (look_ups_of song) order v) (fetch_row other played w)
  pub voice : (channel : ℕ) (o : Options) (s t : Playing) → PlayingsAreAlike maps song order s t →
      PlayingsAreAlike maps song order (voice_step channel o (look_ups_of song) order s)
      (voice_step channel o other played t)

pub record RulesKeepAlike (maps : Maps) (song : Song) (other : LookUps) : Type 0 where
  pub filter : (c d : Common) → CommonsAreAlike maps song c d →
      CommonsAreAlike maps song (filter_step (look_ups_of song) c) (filter_step other d)
  pub voice : (order played : Order) → IsPlayedOrder song order → PlaysFor maps order played →
      VoiceRulesKeepAlike maps song other order played

abbrev pub RulesAreSame : Type 0
RulesAreSame = (maps : Maps) (song : Song) (other : LookUps) → KeepsLimits song → IsPlayable song →
    Agrees maps song other → RulesKeepAlike maps song other

-- ---- frames

-- the frame leaves the same in the registers, and again states that are alike
pub record FramesAreAlike (maps : Maps) (song : Song) (k : ℕ) (framed other : Framed) : Type 0 where
  pub state : StatesAreAlike maps song k framed.state other.state
  pub registers : other.registers ≡ framed.registers

pub record PlaysTheSame (o : Options) (maps : Maps) (song : Song) (k : ℕ) (other : LookUps) (subtune : Subtune)
    : Type 0 where
  -- the start, where each voice has the new number of instrument 1
  pub start : StatesAreAlike maps song k (start_state o) (start_with o (maps.instrument 1))
  -- the filter step and the steps of the voices, from which a frame is made up
  pub filter : (x y : FrameState) → StatesAreAlike maps song k x y →
      StatesAreAlike maps song k (filter_done (look_ups_of song) x) (filter_done other y)
  pub voice : (channel : ℕ) (x y : FrameState) → IsChannel channel → StatesAreAlike maps song k x y →
      StatesAreAlike maps song k (voice_done channel o (look_ups_of song) (subtune_at song k) x)
      (voice_done channel o other subtune y)
  pub frame : (x y : FrameState) → StatesAreAlike maps song k x y →
      FramesAreAlike maps song k (frame_with o song k x) (frame_of o other subtune y)
  pub moved_trace : (i : ℕ) → trace_from o other subtune (start_with o (maps.instrument 1)) i ≡ trace_with o song k i
  -- where instrument 1, with which each voice begins, keeps its number
  pub trace : maps.instrument 1 ≡ 1 → (i : ℕ) → trace_of o other subtune i ≡ trace_with o song k i

-- with any options, whatever the maps and the other look-ups are
abbrev pub FramesAreSame : Type 0
FramesAreSame =
    (o : Options) (maps : Maps) (song : Song) (k : ℕ) (other : LookUps) (subtune : Subtune) → IsSpeed o.speed →
    KeepsLimits song → IsPlayable song → k < length (playable_subtunes song) → Agrees maps song other →
    SubtunePlaysFor maps (subtune_at song k) subtune → PlaysTheSame o maps song k other subtune
