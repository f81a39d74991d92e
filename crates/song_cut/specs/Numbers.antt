-- Pieces of patterns, each once, and their numbers.
use Rattle.std.specs.Prelude.{◌≡◌, ℕ, ◌<◌, ◌≤◌, List, [], ◌++◌, length, map, All, slice_index_or}
use Rattle.std.specs.List.{flat_map}
use Rattle.song_model.specs.declared.rows.Row.{Row}
use Rattle.song_model.specs.Canonical.{row_text}
use Rattle.pattern_cut.specs.declared.lengths.PieceLength.{PieceLength}
use Rattle.pattern_cut.specs.declared.lengths.PieceLength.TheVariants.{Whole, Rows64, Rows32, Rows16, Rows8}
use Rattle.pattern_cut.specs.Choice.{pattern_weight}
use Rattle.song_cut.specs.declared.collecting.Piece.{Piece}
use Rattle.song_cut.specs.declared.collecting.Pieces.{Pieces}

-- into how many pieces a pattern may be cut
abbrev pub most_of : PieceLength → ℕ
most_of Whole = 1
most_of Rows64 = 2
most_of Rows32 = 4
most_of Rows16 = 8
most_of Rows8 = 16

-- the bytes of a piece's rows
abbrev pub text_of : List Row → List ℕ
text_of rows = flat_map row_text rows

abbrev pub no_piece : Piece
no_piece = record { rows = []; weight = 0 }

-- the piece with a number, counted from 0: its rows, and what it weighs
abbrev pub rows_at : List Piece → ℕ → List Row
rows_at pieces k = (slice_index_or pieces k no_piece).rows

abbrev pub weight_at : List Piece → ℕ → ℕ
weight_at pieces k = (slice_index_or pieces k no_piece).weight

-- a piece has its own weight
pub record IsWeighed (piece : Piece) : Type 0 where
  pub is : piece.weight ≡ pattern_weight piece.rows

-- each piece stands there once, with its weight
pub record AreOnce (pieces : List Piece) : Type 0 where
  pub weighed : All IsWeighed pieces
  pub apart : (j k : ℕ) → j < length pieces → k < length pieces →
      text_of (rows_at pieces j) ≡ text_of (rows_at pieces k) → j ≡ k

-- their texts stand beside them
pub record IsCollected (pieces : Pieces) : Type 0 where
  pub texts : map (λ key. key.items) pieces.texts.keys ≡ map (λ piece. text_of piece.rows) pieces.list.items
  pub once : AreOnce pieces.list.items

-- at most n pieces were added at the end
pub record Grows (n : ℕ) (old new : List Piece) : Type 0 where
  pub more : List Piece
  pub is : new ≡ old ++ more
  pub few : length more ≤ n

-- a piece with these rows has this number
pub record IsNumberOf (pieces : List Piece) (rows : List Row) (k : ℕ) : Type 0 where
  pub inside : k < length pieces
  pub is : rows_at pieces k ≡ rows

-- pieces with these rows have these numbers
pub record AreNumbersOf (pieces : List Piece) (rows : List (List Row)) (numbers : List ℕ) : Type 0 where
  pub inside : All (λ (k : ℕ). k < length pieces) numbers
  pub are : map (rows_at pieces) numbers ≡ rows
