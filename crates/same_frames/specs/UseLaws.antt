-- Look-ups that agree with a song up to new numbers use no more than the song does.
use Rattle.std.specs.Prelude.{◌≡◌, ℕ, ◌<◌, length}
use Rattle.song_model.specs.declared.orders.Subtune.{Subtune}
use Rattle.song_model.specs.declared.features.Feature.{Feature}
use Rattle.song_model.specs.declared.songs.Song.{Song}
use Rattle.song_model.specs.Limits.{KeepsLimits}
use Rattle.song_model.specs.LookUp.{playable_subtunes}
use Rattle.play_model.specs.declared.options.Options.{Options}
use Rattle.play_model.specs.Speeds.{IsSpeed}
use Rattle.play_model.specs.LookUps.{LookUps}
use Rattle.play_model.specs.State.{FrameState}
use Rattle.play_model.specs.Frame.{subtune_at}
use Rattle.play_model.specs.Playable.{IsPlayable}
use Rattle.play_model.specs.Features.{HasFeature}
use Rattle.play_model.specs.Uses.{Uses, UsesFeature}
use Rattle.same_frames.specs.Maps.{Maps}
use Rattle.same_frames.specs.Agreement.{Agrees, SubtunePlaysFor, AddsNoOrderByte}
use Rattle.same_frames.specs.Alike.{StatesAreAlike}
use Rattle.same_frames.specs.FrameLaws.{state_after_of}

-- what the frame after a state that is alike uses, the song's frame uses
abbrev pub UsesAreSame : Type 0
UsesAreSame =
    (o : Options) (maps : Maps) (song : Song) (k : ℕ) (other : LookUps) (subtune : Subtune) → KeepsLimits song →
    IsPlayable song → k < length (playable_subtunes song) → Agrees maps song other →
    SubtunePlaysFor maps (subtune_at song k) subtune → AddsNoOrderByte (subtune_at song k) subtune →
    (x y : FrameState) → StatesAreAlike maps song k x y → (feature : Feature) →
    Uses o other subtune y feature → UsesFeature o song k x feature

-- so no frame over the other look-ups uses more than the song's features, where instrument 1, with which each voice
-- begins, keeps its number
abbrev pub NoOtherCase : Type 0
NoOtherCase =
    (o : Options) (maps : Maps) (song : Song) (k i : ℕ) (other : LookUps) (subtune : Subtune) → IsSpeed o.speed →
    KeepsLimits song → IsPlayable song → k < length (playable_subtunes song) → Agrees maps song other →
    SubtunePlaysFor maps (subtune_at song k) subtune → AddsNoOrderByte (subtune_at song k) subtune →
    maps.instrument 1 ≡ 1 → (feature : Feature) → Uses o other subtune (state_after_of o other subtune i) feature →
    HasFeature song feature
