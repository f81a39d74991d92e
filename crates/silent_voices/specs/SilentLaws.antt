-- The voice of a channel with nothing to play stays mute, and its turns change nothing of what the voices share.
use Rattle.std.specs.Prelude.{◌≡◌, ℕ, ◌<◌, ◌≤◌, length, replicate}
use Rattle.song_model.specs.declared.songs.Song.{Song}
use Rattle.song_model.specs.LookUp.{order_of, playable_subtunes}
use Rattle.play_model.specs.declared.options.Options.{Options}
use Rattle.play_model.specs.LookUps.{look_ups_of}
use Rattle.play_model.specs.State.{Voice, FrameState, start_state, voice_of}
use Rattle.play_model.specs.Frame.{voice_registers, subtune_at, frame_with, state_after_with}
use Rattle.play_model.specs.Used.{IsChannel}
use Rattle.play_model.specs.Playable.{IsPlayable}
use Rattle.play_model.specs.Uses.{turn_of, LoadsTempo}
use Rattle.silent_voices.specs.Mute.{IsMute, IsSilentChannel, StaysSilent}

-- ---- registers

-- those of a mute voice are 0
abbrev pub MuteVoicesAreSilent : Type 0
MuteVoicesAreSilent = (v : Voice) → IsMute v → voice_registers v ≡ replicate 7 0

-- ---- turns

-- A mute voice of a channel with nothing to play stays silent in its turn, where it loads no row's length by a tempo of
-- 0 or 1: by these it would exchange its own tempo.
abbrev pub SilentTurnsAreLeft : Type 0
SilentTurnsAreLeft =
    (o : Options) (song : Song) (k channel : ℕ) (x : FrameState) → IsPlayable song →
    k < length (playable_subtunes song) → IsChannel channel → IsSilentChannel song channel →
    IsMute (voice_of channel x) →
    ((tempo : ℕ) → LoadsTempo (turn_of channel o (look_ups_of song) (subtune_at song k) x) tempo → 2 ≤ tempo) →
    StaysSilent o (look_ups_of song) (order_of channel (subtune_at song k)) channel
    (turn_of channel o (look_ups_of song) (subtune_at song k) x).start

-- ---- frames

-- the voice of a channel is mute at each start, and each frame leaves it mute, whatever the tempos are
pub record PlaysNothing (o : Options) (song : Song) (k channel : ℕ) : Type 0 where
  pub start : IsMute (voice_of channel (start_state o))
  pub kept : (x : FrameState) → IsMute (voice_of channel x) → IsMute (voice_of channel (frame_with o song k x).state)

abbrev pub SilentChannelsPlayNothing : Type 0
SilentChannelsPlayNothing =
    (o : Options) (song : Song) (k channel : ℕ) → IsPlayable song → k < length (playable_subtunes song) →
    IsChannel channel → IsSilentChannel song channel → PlaysNothing o song k channel

-- so it is mute after any number of frames
abbrev pub SilentStatesStayMute : Type 0
SilentStatesStayMute =
    (o : Options) (song : Song) (k i channel : ℕ) → IsPlayable song → k < length (playable_subtunes song) →
    IsChannel channel → IsSilentChannel song channel → IsMute (voice_of channel (state_after_with o song k i))
