-- How the rules on orderlists and tables are looked at, one place after the other.
use Rattle.std.specs.Prelude.{◌≡◌, ℕ, ◌-◌, ◌<◌, ◌≤◌, [], Some, slice_get}
use Rattle.song_model.specs.declared.orders.Subtune.{Subtune}
use Rattle.song_model.specs.declared.tables.TableName.{TableName}
use Rattle.song_model.specs.declared.songs.Song.{Song}
use Rattle.song_model.specs.Endless.{IsPatternByte}
use Rattle.song_model.specs.LookUp.{IsNumbered, playable_subtunes}
use Rattle.play_model.specs.declared.unplayable.Unplayable.{Unplayable}
use Rattle.play_model.specs.declared.unplayable.Unplayable.TheVariants.{NoSubtune, MissingPattern, BadRestart}
use Rattle.play_model.specs.declared.unplayable.Unplayable.TheVariants.{TableOverflow, PointerToJump}
use Rattle.play_model.specs.Playable.{MissesPattern, StopsAtRestart, RunsOff, PointsAtJump}
use Rattle.usage.specs.declared.orders.OrderRule.{OrderRule}
use Rattle.usage.specs.declared.orders.OrderRule.TheVariants.{NamesStored, NeverEnds}

-- no refusal is such
abbrev pub IsNowhere : (Unplayable → Type 0) → Type 0
IsNowhere IsSuch = (refusal : Unplayable) → ¬ IsSuch refusal

-- a byte that names a pattern names one of these many
abbrev pub IsStoredByte : ℕ → ℕ → Type 0
IsStoredByte patterns byte = IsPatternByte byte → byte < patterns

-- subtune s of the file, counted from 1
pub record IsSubtuneOf (song : Song) (s : ℕ) (subtune : Subtune) : Type 0 where
  pub stored : IsNumbered song.subtunes s
  pub subtune_is : slice_get song.subtunes (s - 1) ≡ Some subtune

-- the refusal is one of this rule, in channel c of subtune s
abbrev pub FailsAt : OrderRule → Song → ℕ → ℕ → Unplayable → Type 0
FailsAt NamesStored song s c (MissingPattern t d place pattern) =
    (t ≡ s) × (d ≡ c) × MissesPattern song s c place pattern
FailsAt NeverEnds song s c (BadRestart t d) = (t ≡ s) × (d ≡ c) × StopsAtRestart song s c
FailsAt _ song s c _ = ⊥

-- in some channel of subtune s
pub record FailsIn (rule : OrderRule) (song : Song) (s : ℕ) (refusal : Unplayable) : Type 0 where
  pub channel : ℕ
  pub fails : FailsAt rule song s channel refusal

-- in some subtune up to s
pub record FailsUpTo (rule : OrderRule) (song : Song) (s : ℕ) (refusal : Unplayable) : Type 0 where
  pub subtune : ℕ
  pub up_to : subtune ≤ s
  pub fails : FailsIn rule song subtune refusal

-- in some subtune
pub record FailsBy (rule : OrderRule) (song : Song) (refusal : Unplayable) : Type 0 where
  pub subtune : ℕ
  pub fails : FailsIn rule song subtune refusal

-- a program of this table runs off its rows
abbrev pub RunsOffIn : Song → TableName → Unplayable → Type 0
RunsOffIn song name (TableOverflow table row) = (table ≡ name) × RunsOff song name row
RunsOffIn song name _ = ⊥

-- a jump row of this table is pointed at
abbrev pub PointsIn : Song → TableName → Unplayable → Type 0
PointsIn song name (PointerToJump table row) = (table ≡ name) × PointsAtJump song name row
PointsIn song name _ = ⊥

-- the refusal is one of the subtunes or of an orderlist
abbrev pub OrderFails : Song → Unplayable → Type 0
OrderFails song NoSubtune = playable_subtunes song ≡ []
OrderFails song (MissingPattern s c place pattern) = MissesPattern song s c place pattern
OrderFails song (BadRestart s c) = StopsAtRestart song s c
OrderFails song _ = ⊥
