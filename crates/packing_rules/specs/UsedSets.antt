-- The parts that a song uses, as tests of numbers.
use Rattle.std.specs.Prelude.{◌≡◌, ◌↔◌, ℕ, Bool, true}
use Rattle.song_model.specs.declared.tables.TableName.{TableName}
use Rattle.song_model.specs.declared.songs.Song.{Song}
use Rattle.play_model.specs.Used.{IsUsedPattern, IsUsedInstrument}
use Rattle.play_model.specs.Reached.{IsReached, IsPointer}

pub record UsedSets : Type 0 where
  pub patterns : ℕ → Bool
  pub instruments : ℕ → Bool
  -- the rows of a table that are come to, and those that pointers name
  pub reached : TableName → ℕ → Bool
  pub pointers : TableName → ℕ → Bool

-- exactly the numbers with this property pass
abbrev pub IsTestOf : (ℕ → Type 0) → (ℕ → Bool) → Type 0
IsTestOf P test = (n : ℕ) → (test n ≡ true) ↔ P n

-- these are the parts that the song uses
pub record AreUsedSets (song : Song) (used : UsedSets) : Type 0 where
  pub patterns : IsTestOf (IsUsedPattern song) used.patterns
  pub instruments : IsTestOf (IsUsedInstrument song) used.instruments
  pub reached : (name : TableName) → IsTestOf (IsReached song name) (used.reached name)
  pub pointers : (name : TableName) → IsTestOf (IsPointer song name) (used.pointers name)
