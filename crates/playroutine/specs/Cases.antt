-- What the features of a song promise to a player of it.
use Rattle.std.specs.Prelude.{ℕ}
use Rattle.song_model.specs.declared.features.Feature.{Feature}
use Rattle.song_model.specs.Limits.{KeepsLimits}
use Rattle.play_model.specs.Speeds.{IsSpeed}
use Rattle.play_model.specs.Frame.{state_after_with}
use Rattle.play_model.specs.Features.{HasFeature}
use Rattle.play_model.specs.Uses.{UsesFeature}
use Rattle.playroutine.specs.Playback.{Playback, PlayerStandsFor}

-- the player stands for the state after some number of frames, and whatever the next frame does from there, a feature
-- of its song names it
pub record UsesItsFeatures (player : Playback) : Type 0 where
  pub frames : ℕ
  pub stands : PlayerStandsFor player (state_after_with player.options player.song player.subtune frames)
  pub each : IsSpeed player.options.speed → KeepsLimits player.song → (feature : Feature) →
      UsesFeature player.options player.song player.subtune
      (state_after_with player.options player.song player.subtune frames) feature → HasFeature player.song feature
