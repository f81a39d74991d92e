-- A playable song comes to safe states alone, and uses in each of its frames no more than its features.
use Rattle.std.specs.Prelude.{ℕ, ◌<◌, length}
use Rattle.song_model.specs.declared.orders.Order.{Order}
use Rattle.song_model.specs.declared.features.Feature.{Feature}
use Rattle.song_model.specs.declared.songs.Song.{Song}
use Rattle.song_model.specs.Limits.{KeepsLimits}
use Rattle.song_model.specs.LookUp.{playable_subtunes}
use Rattle.play_model.specs.declared.options.Options.{Options}
use Rattle.play_model.specs.Speeds.{IsSpeed}
use Rattle.play_model.specs.LookUps.{look_ups_of}
use Rattle.play_model.specs.State.{Voice, Common, FrameState, Playing, start_state}
use Rattle.play_model.specs.FilterStep.{filter_step}
use Rattle.play_model.specs.TickStep.{tick_step}
use Rattle.play_model.specs.WaveStep.{wave_step}
use Rattle.play_model.specs.EffectStep.{effect_step}
use Rattle.play_model.specs.PulseStep.{pulse_step}
use Rattle.play_model.specs.FetchRow.{fetch_row}
use Rattle.play_model.specs.Frame.{voice_step, filter_done, voice_done, subtune_at, frame_with, state_after_with}
use Rattle.play_model.specs.Used.{IsChannel, IsPlayedOrder}
use Rattle.play_model.specs.Playable.{IsPlayable}
use Rattle.play_model.specs.Features.{HasFeature}
use Rattle.play_model.specs.Uses.{UsesFeature}
use Rattle.play_model.specs.Safe.{IsSafeVoice, IsSafeCommon, IsSafe}

-- ---- frames

-- each start is safe, each frame keeps it so, and what a frame uses is a feature of the song
pub record PlaysSafely (o : Options) (song : Song) (k : ℕ) : Type 0 where
  pub start : IsSafe song k (start_state o)
  pub kept : (x : FrameState) → IsSafe song k x → IsSafe song k (frame_with o song k x).state
  pub uses : (x : FrameState) → IsSafe song k x → (feature : Feature) →
      UsesFeature o song k x feature → HasFeature song feature

abbrev pub PlayableSongsPlaySafely : Type 0
PlayableSongsPlaySafely =
    (o : Options) (song : Song) (k : ℕ) → IsSpeed o.speed → KeepsLimits song → IsPlayable song →
    k < length (playable_subtunes song) → PlaysSafely o song k

-- so the state after any number of frames is safe
abbrev pub StatesAreSafe : Type 0
StatesAreSafe =
    (o : Options) (song : Song) (k i : ℕ) → IsSpeed o.speed → KeepsLimits song → IsPlayable song →
    k < length (playable_subtunes song) → IsSafe song k (state_after_with o song k i)

-- and the frame after it uses the song's features alone
abbrev pub NoUnusedCase : Type 0
NoUnusedCase =
    (o : Options) (song : Song) (k i : ℕ) → IsSpeed o.speed → KeepsLimits song → IsPlayable song →
    k < length (playable_subtunes song) → (feature : Feature) →
    UsesFeature o song k (state_after_with o song k i) feature → HasFeature song feature

-- ---- within a frame

-- a voice at its step, and what the voices share as it stands then
pub record IsSafePlaying (song : Song) (order : Order) (s : Playing) : Type 0 where
  pub voice : IsSafeVoice song order s.voice
  pub common : IsSafeCommon song s.common

-- the rules of a voice that plays this orderlist
pub record VoiceRulesKeepSafe (song : Song) (order : Order) : Type 0 where
  pub tick : (channel : ℕ) (s : Playing) → IsSafePlaying song order s →
      IsSafePlaying song order (tick_step channel (look_ups_of song) s).playing
  pub wave : (s : Playing) → IsSafePlaying song order s →
      IsSafePlaying song order (wave_step (look_ups_of song) s).playing
  pub effect : (v : Voice) → IsSafeVoice song order v →
      IsSafeVoice song order (effect_step (look_ups_of song) v)
  pub pulse : (v : Voice) → IsSafeVoice song order v →
      IsSafeVoice song order (pulse_step (look_ups_of song) v)
  pub fetch : (v : Voice) → IsSafeVoice song order v →
      IsSafeVoice song order (fetch_row (look_ups_of song) order v)
  pub voice : (channel : ℕ) (o : Options) (s : Playing) → IsSafePlaying song order s →
      IsSafePlaying song order (voice_step channel o (look_ups_of song) order s)

-- each rule keeps what it works on safe
pub record RulesKeepSafe (song : Song) : Type 0 where
  pub filter : (c : Common) → IsSafeCommon song c →
      IsSafeCommon song (filter_step (look_ups_of song) c)
  pub voice : (order : Order) → IsPlayedOrder song order → VoiceRulesKeepSafe song order

-- so do the filter step and the steps of the voices, from which a frame is made up
pub record StepsKeepSafe (o : Options) (song : Song) (k : ℕ) : Type 0 where
  pub filter : (x : FrameState) → IsSafe song k x →
      IsSafe song k (filter_done (look_ups_of song) x)
  pub voice : (channel : ℕ) (x : FrameState) → IsChannel channel → IsSafe song k x →
      IsSafe song k (voice_done channel o (look_ups_of song) (subtune_at song k) x)

pub record KeepsSafeWithin (song : Song) : Type 0 where
  pub rules : RulesKeepSafe song
  pub steps : (o : Options) (k : ℕ) → k < length (playable_subtunes song) →
      StepsKeepSafe o song k

abbrev pub SafeWithin : Type 0
SafeWithin = (song : Song) → KeepsLimits song → IsPlayable song → KeepsSafeWithin song
