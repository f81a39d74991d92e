-- The table of a song's pieces.
use Rattle.std.specs.Prelude.{◌≡◌, ℕ, ◌<◌, ◌≤◌, true, if◌then◌else◌, List, [], ◌∷◌, length, All, slice_index_or}
use Rattle.std.specs.List.{flat_map, range_with_len}
use Rattle.song_model.specs.declared.rows.Row.{Row}
use Rattle.song_model.specs.declared.songs.Song.{Song}
use Rattle.song_model.specs.declared.patterns.TheConstants.{MOST_PATTERNS}
use Rattle.song_model.specs.LookUp.{pattern_at}
use Rattle.pattern_cut.specs.declared.lengths.PieceLength.{PieceLength}
use Rattle.pattern_cut.specs.declared.lengths.PieceLength.TheVariants.{Whole, Rows64, Rows32, Rows16, Rows8}
use Rattle.pattern_cut.specs.Pieces.{rows_of, slices, is_named, is_repeated}
use Rattle.pattern_cut.specs.CutSongs.{Ways}
use Rattle.song_cut.specs.declared.collecting.Piece.{Piece}
use Rattle.song_cut.specs.declared.collecting.TheConstants.{MOST_PIECES}
use Rattle.song_cut.specs.declared.table.PieceTable.{PieceTable}
use Rattle.song_cut.specs.Marks.{AreOf, is_marked}
use Rattle.song_cut.specs.Numbers.{AreOnce, AreNumbersOf}

-- ---- numbers by pattern

-- the pieces of pattern n that have this size; one that is repeated stays whole
unfoldable pub pieces_with : Song → PieceLength → ℕ → List (List Row)
pieces_with song size n =
    if is_repeated song n then pattern_at song n ∷ [] else slices (rows_of size) (pattern_at song n)

-- numbers of the pieces of one pattern
pub record AreSmall (numbers : List ℕ) : Type 0 where
  pub inside : All (λ (k : ℕ). k < MOST_PIECES) numbers
  pub short : length numbers ≤ 16

abbrev pub list_at : List (List ℕ) → ℕ → List ℕ
list_at lists n = slice_index_or lists n []

-- numbers of the pieces of n patterns
pub record AreLists (n : ℕ) (lists : List (List ℕ)) : Type 0 where
  pub count : length lists ≡ n
  pub small : All AreSmall lists

-- they are those of the named ones of the first n patterns of the song
pub record AreNumbers (song : Song) (pieces : List Piece) (size : PieceLength) (n : ℕ)
    (lists : List (List ℕ)) : Type 0 where
  pub each : (p : ℕ) → p < n → is_named song p ≡ true →
      AreNumbersOf pieces (pieces_with song size p) (list_at lists p)

-- ---- the table

abbrev pub lists_of : PieceTable → PieceLength → List (List ℕ)
lists_of table Whole = table.whole
lists_of table Rows64 = table.rows64
lists_of table Rows32 = table.rows32
lists_of table Rows16 = table.rows16
lists_of table Rows8 = table.rows8

-- the numbers of the pieces of pattern n, where its pieces have this size, and where all have the sizes of a song's ways
abbrev pub numbers_in : PieceTable → PieceLength → ℕ → List ℕ
numbers_in table size n = list_at (lists_of table size) n

abbrev pub way_numbers : PieceTable → Ways → ℕ → List ℕ
way_numbers table ways n = numbers_in table (slice_index_or ways n Whole) n

-- none of a pattern that isn't named
abbrev pub named_numbers : PieceTable → Ways → ℕ → List ℕ
named_numbers table ways n = if is_marked table.named n then way_numbers table ways n else []

-- those of the named ones of the first n patterns
unfoldable pub numbers_below : PieceTable → Ways → ℕ → List ℕ
numbers_below table ways n = flat_map (named_numbers table ways) (range_with_len 0 n)

abbrev pub all_numbers : PieceTable → Ways → List ℕ
all_numbers table ways = numbers_below table ways MOST_PATTERNS

-- in all sizes there are numbers of each pattern
pub record IsShaped (table : PieceTable) : Type 0 where
  pub lists : (size : PieceLength) → AreLists MOST_PATTERNS (lists_of table size)

-- it is the table of the song
pub record IsTableOf (song : Song) (table : PieceTable) : Type 0 where
  pub named : AreOf (is_named song) table.named
  pub once : AreOnce table.pieces.items
  pub few : length table.pieces.items ≤ MOST_PIECES
  pub shaped : IsShaped table
  pub numbers : (size : PieceLength) → AreNumbers song table.pieces.items size MOST_PATTERNS (lists_of table size)
