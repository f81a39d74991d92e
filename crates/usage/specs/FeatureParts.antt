-- What the features of a song are told from.
use Rattle.std.specs.Prelude.{◌≡◌, ℕ, ◌<◌, ◌≤◌, ◌⊎◌, ◌↔◌, Bool, List, IsBitSet}
use Rattle.song_model.specs.declared.features.Feature.{Feature}
use Rattle.song_model.specs.declared.songs.Song.{Song}
use Rattle.song_model.specs.Feature.{bit_of}
use Rattle.play_model.specs.Features.{HasFeature}
use Rattle.usage.specs.Marks.{IsMarked}
use Rattle.usage.specs.Building.{marks_of}

-- one of these numbers is marked
pub record HasMark (marks : List Bool) (from to : ℕ) : Type 0 where
  pub n : ℕ
  pub low : from ≤ n
  pub high : n < to
  pub marked : IsMarked marks n

-- a command is marked with some parameter
pub record HasCommandMark (commands : List (List Bool)) : Type 0 where
  pub command : ℕ
  pub parameter : ℕ
  pub marked : IsMarked (marks_of commands command) parameter

-- the bit of the feature was added to a set of bits, if the song uses it
pub record AddsBit (song : Song) (feature : Feature) (old new : ℕ) : Type 0 where
  pub each : (k : ℕ) → IsBitSet new k ↔ (IsBitSet old k ⊎ ((k ≡ bit_of feature) × HasFeature song feature))
