-- Small patterns in pieces, and a small song whose patterns are cut, worked out by hand.
use Rattle.std.specs.Prelude.{◌≡◌, ℕ, true, false, List, [], ◌∷◌, ◌++◌, map, replicate}
use Rattle.std.specs.List.{range_with_len}
use Rattle.song_model.specs.declared.rows.Row.{Row}
use Rattle.song_model.specs.declared.orders.Subtune.{Subtune}
use Rattle.song_model.specs.declared.songs.Song.{Song}
use Rattle.song_model.specs.Silence.{empty_song}
use Rattle.play_model.specs.WorkedSongs.{order, subtune, row, rests, one_note}
use Rattle.pattern_cut.specs.declared.lengths.PieceLength.TheVariants.{Whole, Rows64, Rows32, Rows16, Rows8}
use Rattle.pattern_cut.specs.Pieces.{rows_of, slices, named, repeated_in, repeated_of, is_repeated}
use Rattle.pattern_cut.specs.CutSongs.{Ways, pieces_of, same_rows, all_pieces, piece_numbers, cut_with}
use Rattle.pattern_cut.specs.WorkedCuts.{from}

-- ---- pieces

-- so many rows, each with a note one half tone above that of the row before it
abbrev pub scale : ℕ → ℕ → List Row
scale note count = map (λ n. row n 1 0 0) (range_with_len note count)

-- The lengths. 12 rows in pieces of 8 are 8 rows and the other 4, and 9 rows are 8 and one; 8 rows are one piece, and
-- 16 are two. Whole patterns are one piece, the longest one too, and no rows are none.
pub record SlicesAreAsWorked : Type 0 where
  pub lengths : map rows_of (Whole ∷ Rows64 ∷ Rows32 ∷ Rows16 ∷ Rows8 ∷ []) ≡ 128 ∷ 64 ∷ 32 ∷ 16 ∷ 8 ∷ []
  pub rest : slices 8 (scale 0x60 12) ≡ scale 0x60 8 ∷ scale 0x68 4 ∷ []
  pub one_over : slices 8 (scale 0x60 9) ≡ scale 0x60 8 ∷ scale 0x68 1 ∷ []
  pub full : slices 8 (scale 0x60 8) ≡ scale 0x60 8 ∷ []
  pub two : slices 8 (scale 0x60 16) ≡ scale 0x60 8 ∷ scale 0x68 8 ∷ []
  pub whole : slices (rows_of Whole) (scale 0x60 3) ≡ scale 0x60 3 ∷ []
  pub longest : slices (rows_of Whole) (rests 128) ≡ rests 128 ∷ []
  pub none : slices 8 [] ≡ []
  pub lost : ¬ (slices 8 (scale 0x60 12) ≡ scale 0x60 8 ∷ [])

-- ---- patterns that stay whole

-- The pattern behind a repeat is repeated, and uses the repeat up; a transpose between the two doesn't. $D0 repeats
-- nothing, and takes a repeat before it away. The last number of a pattern is $CF. A walk may begin with a repeat.
pub record RepeatsAreAsWorked : Type 0 where
  pub repeated : repeated_in (0xD1 ∷ 5 ∷ []) 0 ≡ 5 ∷ []
  pub plain : repeated_in (5 ∷ 0xF2 ∷ 6 ∷ []) 0 ≡ []
  pub once : repeated_in (0xD0 ∷ 5 ∷ []) 0 ≡ []
  pub used_up : repeated_in (0xDF ∷ 5 ∷ 6 ∷ []) 0 ≡ 5 ∷ []
  pub through : repeated_in (0xD1 ∷ 0xF2 ∷ 5 ∷ []) 0 ≡ 5 ∷ []
  pub taken_away : repeated_in (0xD1 ∷ 0xD0 ∷ 5 ∷ []) 0 ≡ []
  pub last : repeated_in (0xD1 ∷ 0xCF ∷ []) 0 ≡ 0xCF ∷ []
  pub begun : repeated_in (5 ∷ 6 ∷ []) 1 ≡ 5 ∷ []

-- A repeat that stands at the end is one of the pattern at the restart position, and of no other. A repeat before the
-- restart position is found once, though its pattern stands there, and one from there on twice.
pub record RestartsAreAsWorked : Type 0 where
  pub at_end : repeated_of (from 1 (5 ∷ 6 ∷ 7 ∷ 0xD1 ∷ [])) ≡ 6 ∷ []
  pub at_start : repeated_of (from 0 (5 ∷ 6 ∷ 0xD1 ∷ 0xF2 ∷ [])) ≡ 5 ∷ []
  pub once_at_end : repeated_of (from 0 (5 ∷ 0xD0 ∷ [])) ≡ []
  pub used_up : repeated_of (from 1 (0xD1 ∷ 5 ∷ 6 ∷ [])) ≡ 5 ∷ []
  pub both : repeated_of (from 0 (0xD1 ∷ 5 ∷ 6 ∷ [])) ≡ 5 ∷ 5 ∷ []

-- a song of these subtunes alone
abbrev pub naming : List Subtune → Song
naming subtunes = record empty_song { subtunes = subtunes }

-- the patterns of all three orderlists of all subtunes, in ascending order and each once; repeats and transposes are
-- none, and a subtune with an empty orderlist names none
pub record NamesAreAsWorked : Type 0 where
  pub ascending : named (naming (subtune (4 ∷ 0xF1 ∷ 1 ∷ 4 ∷ []) (3 ∷ []) (0xD1 ∷ 0 ∷ []) ∷ [])) ≡ 0 ∷ 1 ∷ 3 ∷ 4 ∷ []
  pub two : named (naming (subtune (4 ∷ []) (2 ∷ []) (2 ∷ []) ∷ subtune (0 ∷ []) (2 ∷ []) (0xCF ∷ []) ∷ []))
      ≡ 0 ∷ 2 ∷ 4 ∷ 0xCF ∷ []
  pub not_played : named (naming (subtune (1 ∷ []) [] (2 ∷ []) ∷ subtune (0 ∷ []) (0 ∷ []) (0 ∷ []) ∷ [])) ≡ 0 ∷ []
  pub none : named empty_song ≡ []

-- pattern 1 is repeated by the second orderlist, though the first one plays it once, and pattern 2 from the end of the
-- third one on; pattern 0 is repeated only in a subtune that isn't played
abbrev pub repeating : Song
repeating =
    naming (subtune (0 ∷ 1 ∷ []) (0xD1 ∷ 1 ∷ []) (2 ∷ 3 ∷ 0xD1 ∷ [])
    ∷ subtune (0xD1 ∷ 0 ∷ []) [] (0 ∷ []) ∷ [])

abbrev pub RepeatedIsAsWorked : Type 0
RepeatedIsAsWorked = map (is_repeated repeating) (0 ∷ 1 ∷ 2 ∷ 3 ∷ 4 ∷ []) ≡ false ∷ true ∷ true ∷ false ∷ false ∷ []

-- ---- a song

-- a note and seven rests
abbrev pub bar : ℕ → List Row
bar note = row note 1 0 0 ∷ rests 7

-- the first half of such a bar
abbrev pub half : ℕ → List Row
half note = row note 1 0 0 ∷ rests 3

-- Pattern 0 is two equal bars; pattern 3 is that bar and half another one. Pattern 2 is repeated. Pattern 1 isn't
-- named, since of the second subtune nothing is played.
abbrev pub bars_song : Song
bars_song = record one_note {
  subtunes = (record { one = from 1 (0 ∷ 3 ∷ []); two = order (0xD1 ∷ 2 ∷ []); three = order (0xF1 ∷ 3 ∷ []) })
      ∷ subtune (1 ∷ []) [] (1 ∷ []) ∷ [];
  patterns = (bar 0x90 ++ bar 0x90) ∷ bar 0x94 ∷ rests 16 ∷ (bar 0x90 ++ half 0x92) ∷ [];
}

-- all four in pieces of 8 rows
abbrev pub eights : Ways
eights = replicate 4 Rows8

-- each by its own length; one that is repeated stays whole, and so does one for which no length is given
pub record PiecesOfAreAsWorked : Type 0 where
  pub equal : pieces_of bars_song eights 0 ≡ bar 0x90 ∷ bar 0x90 ∷ []
  pub rest : pieces_of bars_song eights 3 ≡ bar 0x90 ∷ half 0x92 ∷ []
  pub repeated : pieces_of bars_song eights 2 ≡ rests 16 ∷ []
  pub own : pieces_of bars_song (Rows8 ∷ Rows8 ∷ Rows8 ∷ Rows16 ∷ []) 3 ≡ (bar 0x90 ++ half 0x92) ∷ []
  pub not_given : pieces_of bars_song [] 0 ≡ (bar 0x90 ++ bar 0x90) ∷ []

-- rows are the same where all their fields are, and no row is more
pub record RowsAreCompared : Type 0 where
  pub same : same_rows (bar 0x90) (bar 0x90) ≡ true
  pub note : same_rows (row 0x90 1 2 3 ∷ []) (row 0x91 1 2 3 ∷ []) ≡ false
  pub instrument : same_rows (row 0x90 1 2 3 ∷ []) (row 0x90 0 2 3 ∷ []) ≡ false
  pub command : same_rows (row 0x90 1 2 3 ∷ []) (row 0x90 1 1 3 ∷ []) ≡ false
  pub param : same_rows (row 0x90 1 2 3 ∷ []) (row 0x90 1 2 4 ∷ []) ≡ false
  pub more : same_rows (bar 0x90) (bar 0x90 ++ rests 1) ≡ false
  pub less : same_rows (bar 0x90) (half 0x90) ≡ false

-- the same song where pattern 0 has another parameter in its second bar
abbrev pub other_song : Song
other_song = record bars_song {
  patterns = (bar 0x90 ++ row 0x90 1 0 1 ∷ rests 7) ∷ bar 0x94 ∷ rests 16 ∷ (bar 0x90 ++ half 0x92) ∷ [];
}

-- equal pieces stand once, those of one pattern and those of two; rows with another parameter are another piece
pub record AllPiecesAreAsWorked : Type 0 where
  pub equal : all_pieces bars_song eights ≡ bar 0x90 ∷ rests 16 ∷ half 0x92 ∷ []
  pub whole : all_pieces bars_song [] ≡ (bar 0x90 ++ bar 0x90) ∷ rests 16 ∷ (bar 0x90 ++ half 0x92) ∷ []
  pub other : all_pieces other_song eights ≡ bar 0x90 ∷ (row 0x90 1 0 1 ∷ rests 7) ∷ rests 16 ∷ half 0x92 ∷ []
  pub numbers : map (piece_numbers bars_song eights) (0 ∷ 2 ∷ 3 ∷ []) ≡ (0 ∷ 0 ∷ []) ∷ (1 ∷ []) ∷ (0 ∷ 2 ∷ []) ∷ []
  pub other_numbers : map (piece_numbers other_song eights) (0 ∷ 2 ∷ 3 ∷ [])
      ≡ (0 ∷ 1 ∷ []) ∷ (2 ∷ []) ∷ (0 ∷ 3 ∷ []) ∷ []

-- Voice 1 restarts at the first piece of the pattern that stood there. The repeat stays before its pattern, which is
-- whole. The second subtune is left out.
abbrev pub cut_bars : Song
cut_bars = record bars_song {
  subtunes = (record {
    one = from 2 (0 ∷ 0 ∷ 0 ∷ 2 ∷ []);
    two = order (0xD1 ∷ 1 ∷ []);
    three = order (0xF1 ∷ 0 ∷ 2 ∷ []);
  }) ∷ [];
  patterns = bar 0x90 ∷ rests 16 ∷ half 0x92 ∷ [];
}

abbrev pub BarsAreCut : Type 0
BarsAreCut = cut_with bars_song eights ≡ cut_bars

pub record PatternPiecesAreAsWorked : Type 0 where
  pub slices : SlicesAreAsWorked
  pub repeats : RepeatsAreAsWorked
  pub restarts : RestartsAreAsWorked
  pub names : NamesAreAsWorked
  pub repeated : RepeatedIsAsWorked
  pub pieces : PiecesOfAreAsWorked
  pub compared : RowsAreCompared
  pub all : AllPiecesAreAsWorked
  pub song : BarsAreCut
