-- Which songs can be played, and why another can't. The rules are tried in their order, and each names its
-- least place. This is this project's profile of the GoatTracker 2 readme.
use Rattle.std.specs.Prelude.{◌≡◌, ◌≢◌, ℕ, ◌-◌, ◌<◌, ◌≤◌, ◌⊎◌, true, List, []}
use Rattle.std.specs.Prelude.{◌∷◌, length, Some, slice_get}
use Rattle.std.specs.Ordering.{nat_cmp, is_le}
use Rattle.std.specs.Cmp.Lexicographic.{slice_cmp}
use Rattle.song_model.specs.declared.orders.Order.{Order}
use Rattle.song_model.specs.declared.orders.Subtune.{Subtune}
use Rattle.song_model.specs.declared.tables.TableName.{TableName}
use Rattle.song_model.specs.declared.tables.TableName.TheVariants.{Wave, Pulse, Filter, Speed}
use Rattle.song_model.specs.declared.songs.Song.{Song}
use Rattle.song_model.specs.Endless.{IsPatternByte, IsEndless}
use Rattle.song_model.specs.LookUp.{IsNumbered, table_of, table_row, order_of, is_playable_subtune, playable_subtunes}
use Rattle.play_model.specs.declared.unplayable.Unplayable.{Unplayable}
use Rattle.play_model.specs.declared.unplayable.Unplayable.TheVariants.{NoSubtune, MissingPattern, BadRestart}
use Rattle.play_model.specs.declared.unplayable.Unplayable.TheVariants.{TableOverflow, PointerToJump}
use Rattle.play_model.specs.Used.{IsChannel}
use Rattle.play_model.specs.Reached.{is_jump, IsReached, IsPointer}

-- ---- the places of a file

-- channel c of subtune s of the file, both counted from 1, has this orderlist, and the subtune can be played
pub record HasOrder (song : Song) (s c : ℕ) (order : Order) : Type 0 where
  pub subtune : Subtune
  pub stored : IsNumbered song.subtunes s
  pub subtune_is : slice_get song.subtunes (s - 1) ≡ Some subtune
  pub playable : is_playable_subtune subtune ≡ true
  pub is_channel : IsChannel c
  pub order_is : order ≡ order_of c subtune

-- the orderlist names at this place, counted from 0, a pattern that isn't stored
pub record MissesPattern (song : Song) (s c place pattern : ℕ) : Type 0 where
  pub order : Order
  pub has : HasOrder song s c order
  pub names : slice_get order.entries place ≡ Some pattern
  pub is_pattern : IsPatternByte pattern
  pub missing : length song.patterns ≤ pattern

-- the orderlist doesn't go on for ever
pub record StopsAtRestart (song : Song) (s c : ℕ) : Type 0 where
  pub order : Order
  pub has : HasOrder song s c order
  pub stops : ¬ IsEndless order

-- the tables whose rows are programs
abbrev pub HasPrograms : TableName → Type 0
HasPrograms name = name ≢ Speed

-- a program comes to a row that isn't stored
pub record RunsOff (song : Song) (name : TableName) (row : ℕ) : Type 0 where
  pub programs : HasPrograms name
  pub reached : IsReached song name row
  pub above : length (table_of song name) < row

-- a reached jump row names this row
pub record IsJumpTarget (song : Song) (name : TableName) (row : ℕ) : Type 0 where
  pub p : ℕ
  pub reached : IsReached song name p
  pub jump : is_jump name (table_row song name p) ≡ true
  pub target : (table_row song name p).right ≡ row
  pub some : row ≢ 0

-- a pointer or a reached jump row names a jump row
pub record PointsAtJump (song : Song) (name : TableName) (row : ℕ) : Type 0 where
  pub named : IsPointer song name row ⊎ IsJumpTarget song name row
  pub jump : is_jump name (table_row song name row) ≡ true

-- ---- the rules

-- the rule fails at this place
abbrev pub Fails : Song → Unplayable → Type 0
Fails song NoSubtune = playable_subtunes song ≡ []
Fails song (MissingPattern s c place pattern) = MissesPattern song s c place pattern
Fails song (BadRestart s c) = StopsAtRestart song s c
Fails song (TableOverflow name row) = RunsOff song name row
Fails song (PointerToJump name row) = PointsAtJump song name row

-- the order of the tables
abbrev pub table_number : TableName → ℕ
table_number Wave = 1
table_number Pulse = 2
table_number Filter = 3
table_number Speed = 4

-- the order in which refusals are looked for, by the first of these numbers in which two differ: the rule,
-- and then its place
abbrev pub rank_of : Unplayable → List ℕ
rank_of NoSubtune = 1 ∷ []
rank_of (MissingPattern s c place pattern) = 2 ∷ s ∷ c ∷ place ∷ []
rank_of (BadRestart s c) = 3 ∷ s ∷ c ∷ []
rank_of (TableOverflow name row) = 4 ∷ table_number name ∷ row ∷ []
rank_of (PointerToJump name row) = 5 ∷ table_number name ∷ row ∷ []

-- the other refusal doesn't come before this one
abbrev pub IsNotAfter : Unplayable → Unplayable → Type 0
IsNotAfter refusal other = is_le (slice_cmp nat_cmp (rank_of refusal) (rank_of other)) ≡ true

-- the first of the refusals that are such
pub record IsFirst (IsSuch : Unplayable → Type 0) (refusal : Unplayable) : Type 0 where
  pub is_such : IsSuch refusal
  pub first : (other : Unplayable) → IsSuch other → IsNotAfter refusal other

-- the song is refused for this: a rule fails there, and none fails earlier
abbrev pub IsRefusedFor : Song → Unplayable → Type 0
IsRefusedFor song refusal = IsFirst (Fails song) refusal

-- no rule fails
abbrev pub IsPlayable : Song → Type 0
IsPlayable song = (refusal : Unplayable) → ¬ Fails song refusal
