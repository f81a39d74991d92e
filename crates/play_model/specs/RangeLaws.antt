-- Each rule of a frame keeps the ranges, whatever state within them it is given.
use Rattle.std.specs.Prelude.{◌≡◌, ℕ, ◌+◌, ◌%◌, ℤ, FitsSigned}
use Rattle.std.specs.Int.{cast_unsigned, w8}
use Rattle.base.specs.Bytes.{IsByte, AreBytes}
use Rattle.song_model.specs.declared.orders.Order.{Order}
use Rattle.song_model.specs.declared.orders.Subtune.{Subtune}
use Rattle.song_model.specs.declared.songs.Song.{Song}
use Rattle.song_model.specs.Limits.{KeepsLimits}
use Rattle.play_model.specs.declared.options.Options.{Options}
use Rattle.play_model.specs.Speeds.{IsSpeed}
use Rattle.play_model.specs.LookUps.{LookUps, look_ups_of}
use Rattle.play_model.specs.State.{Voice, Common, FrameState, Playing, start_state}
use Rattle.play_model.specs.Ranges.{AreLookUps, IsVoice, IsCommon, IsPlaying, IsFrameState}
use Rattle.play_model.specs.FilterStep.{filter_step}
use Rattle.play_model.specs.TickStep.{tick_step}
use Rattle.play_model.specs.WaveStep.{wave_step}
use Rattle.play_model.specs.EffectStep.{effect_step}
use Rattle.play_model.specs.PulseStep.{pulse_step}
use Rattle.play_model.specs.FetchRow.{transposed, fetch_row}
use Rattle.play_model.specs.Frame.{voice_step, filter_done, voice_done, frame_of, state_after_with, trace_with}

-- one rule after the other, over any look-ups that find bytes
pub record RulesKeepRanges (look : LookUps) : Type 0 where
  pub filter : (c : Common) → IsCommon c → IsCommon (filter_step look c)
  pub tick : (channel : ℕ) (s : Playing) → IsPlaying s →
      IsPlaying (tick_step channel look s).playing
  pub wave : (s : Playing) → IsPlaying s → IsPlaying (wave_step look s).playing
  pub effect : (v : Voice) → IsVoice v → IsVoice (effect_step look v)
  pub pulse : (v : Voice) → IsVoice v → IsVoice (pulse_step look v)
  pub fetch : (order : Order) (v : Voice) → IsVoice v → IsVoice (fetch_row look order v)
  pub voice : (channel : ℕ) (o : Options) (order : Order) (s : Playing) →
      IsPlaying s → IsPlaying (voice_step channel o look order s)

-- the states within a frame and after it, and its registers
pub record FramesKeepRanges (o : Options) (look : LookUps) (subtune : Subtune) : Type 0 where
  pub filter : (x : FrameState) → IsFrameState x → IsFrameState (filter_done look x)
  pub voice : (channel : ℕ) (x : FrameState) → IsFrameState x →
      IsFrameState (voice_done channel o look subtune x)
  pub state : (x : FrameState) → IsFrameState x → IsFrameState (frame_of o look subtune x).state
  pub registers : (x : FrameState) → IsFrameState x → AreBytes (frame_of o look subtune x).registers

-- what a song within its limits is played with, and what it leaves
pub record SongsKeepRanges (o : Options) (song : Song) : Type 0 where
  pub look_ups : AreLookUps (look_ups_of song)
  pub state : (k n : ℕ) → IsFrameState (state_after_with o song k n)
  pub trace : (k i : ℕ) → AreBytes (trace_with o song k i)

abbrev pub RangesAreKept : Type 0
RangesAreKept = (look : LookUps) → AreLookUps look → RulesKeepRanges look

abbrev pub FrameRangesAreKept : Type 0
FrameRangesAreKept =
    (o : Options) (look : LookUps) (subtune : Subtune) → AreLookUps look →
    FramesKeepRanges o look subtune

abbrev pub StartIsInRange : Type 0
StartIsInRange = (o : Options) → IsSpeed o.speed → IsFrameState (start_state o)

abbrev pub SongRangesAreKept : Type 0
SongRangesAreKept =
    (o : Options) (song : Song) → IsSpeed o.speed → KeepsLimits song → SongsKeepRanges o song

-- a byte's wrapping sum: of the note and the byte that stands for the transpose
abbrev pub TransposesWrap : Type 0
TransposesWrap = (note : ℕ) (transpose : ℤ) → IsByte note → FitsSigned w8 transpose →
    transposed note transpose ≡ (note + cast_unsigned w8 transpose) % 256
