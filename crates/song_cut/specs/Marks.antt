-- Marks of the patterns that a song names, and of those that it repeats.
use Rattle.std.specs.Prelude.{◌≡◌, ℕ, ◌<◌, ◌||◌, Bool, false, nat_eq, if◌then◌else◌, List, [], slice_index_or}
use Rattle.std.specs.List.{flat_map, list_any}
use Rattle.song_model.specs.declared.orders.Order.{Order}
use Rattle.song_model.specs.declared.orders.Subtune.{Subtune}
use Rattle.song_model.specs.LookUp.{is_playable_subtune}
use Rattle.song_model.specs.declared.songs.Song.{Song}
use Rattle.pattern_cut.specs.Pieces.{orders_of, is_named, is_repeated}
use Rattle.song_cut.specs.declared.marks.PatternMarks.{PatternMarks}

-- past the last mark no number is marked
abbrev pub is_marked : List Bool → ℕ → Bool
is_marked marks n = slice_index_or marks n false

-- the marks of these bytes were added, and no other
pub record Adds (test : ℕ → Bool) (old new : List Bool) : Type 0 where
  pub each : (n : ℕ) → n < 256 → is_marked new n ≡ (is_marked old n || test n)

-- the marks are those of these bytes, and of no other
pub record AreOf (test : ℕ → Bool) (marks : List Bool) : Type 0 where
  pub each : (n : ℕ) → n < 256 → is_marked marks n ≡ test n

-- a byte is one of those that are taken from some orderlists
abbrev pub bytes_in : (Order → List ℕ) → List Order → ℕ → Bool
bytes_in bytes_of orders n = list_any (nat_eq n) (flat_map bytes_of orders)

-- the orderlists of a subtune that can be played
abbrev pub orders_if_played : Subtune → List Order
orders_if_played subtune = if is_playable_subtune subtune then orders_of subtune else []

-- they are those of the song's patterns
pub record AreMarksOf (song : Song) (marks : PatternMarks) : Type 0 where
  pub named : AreOf (is_named song) marks.named
  pub repeated : AreOf (is_repeated song) marks.repeated
