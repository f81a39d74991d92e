-- What the features that are answered promise to a player of the song.
use Rattle.std.specs.Prelude.{ℕ, ◌<◌, ◌≤◌, Bool, length, IsBitSet}
use Rattle.song_model.specs.declared.features.Feature.{Feature}
use Rattle.song_model.specs.declared.songs.Song.{Song}
use Rattle.song_model.specs.Feature.{bit_of}
use Rattle.song_model.specs.Limits.{KeepsLimits}
use Rattle.song_model.specs.LookUp.{playable_subtunes}
use Rattle.play_model.specs.declared.options.Options.{Options}
use Rattle.play_model.specs.declared.options.System.{System}
use Rattle.play_model.specs.Speeds.{IsSpeed}
use Rattle.play_model.specs.Frame.{state_after_with}
use Rattle.play_model.specs.Uses.{UsesFeature}

-- Whatever a frame of a song within its limits does, with any options, in any playable subtune and after any number of
-- frames: one of these bits names it.
pub record NameEachCase (song : Song) (bits : ℕ) : Type 0 where
  pub each : (o : Options) (k i : ℕ) → IsSpeed o.speed → KeepsLimits song →
      k < length (playable_subtunes song) → (feature : Feature) →
      UsesFeature o song k (state_after_with o song k i) feature → IsBitSet bits (bit_of feature)

-- the options with each step of a frame left out or kept, a speed and a system
abbrev pub options_of : Bool → Bool → Bool → ℕ → System → Options
options_of effects pulse first speed system = record {
  skip_effects = effects;
  skip_pulse = pulse;
  skip_first = first;
  speed = speed;
  system = system;
}

-- so they do at each speed from 1 to 4, on each system, and with each step of a frame left out or kept
abbrev pub EachSpeedIsNamed : Type 0
EachSpeedIsNamed =
    (song : Song) (bits : ℕ) → NameEachCase song bits → KeepsLimits song → (effects pulse first : Bool) (speed : ℕ)
    (system : System) (k i : ℕ) → 1 ≤ speed → speed ≤ 4 → k < length (playable_subtunes song) →
    (feature : Feature) →
    UsesFeature (options_of effects pulse first speed system) song k
    (state_after_with (options_of effects pulse first speed system) song k i) feature → IsBitSet bits (bit_of feature)
