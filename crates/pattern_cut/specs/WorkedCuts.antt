-- Small orderlists whose patterns are in pieces, worked out by hand.
use Rattle.std.specs.Prelude.{◌≡◌, ℕ, ◌==◌, List, [], ◌∷◌, if◌then◌else◌}
use Rattle.song_model.specs.declared.orders.Order.{Order}
use Rattle.play_model.specs.LookUps.{LookUps, look_ups_of}
use Rattle.play_model.specs.WorkedSongs.{order}
use Rattle.same_frames.specs.WorkedRows.{whole_song, cut_song}
use Rattle.pattern_cut.specs.Cuts.{ArePieces, cut_order, IsCutFor}

-- pattern 0 stands in patterns 0 and 2, any other in itself
abbrev pub two_pieces : ℕ → List ℕ
two_pieces n = if n == 0 then 0 ∷ 2 ∷ [] else n ∷ []

abbrev pub whole : LookUps
whole = look_ups_of whole_song

abbrev pub cut : LookUps
cut = look_ups_of cut_song

abbrev pub from : ℕ → List ℕ → Order
from restart entries = record { entries = entries; restart = restart }

-- repeats and transposes stay, and the restart position is that of the first piece
pub record OrdersAreCut : Type 0 where
  pub entries : cut_order two_pieces (order (0 ∷ 0xF1 ∷ 1 ∷ 0 ∷ [])) ≡ order (0 ∷ 2 ∷ 0xF1 ∷ 1 ∷ 0 ∷ 2 ∷ [])
  pub restart : cut_order two_pieces (from 2 (0 ∷ 0xF1 ∷ 0 ∷ [])) ≡ from 3 (0 ∷ 2 ∷ 0xF1 ∷ 0 ∷ 2 ∷ [])

-- all rows of the pattern, in their order, and no number that is none of a pattern, though it has no rows
pub record PiecesAreAsWorked : Type 0 where
  pub both : ArePieces whole cut 0 (0 ∷ 2 ∷ [])
  pub itself : ArePieces whole cut 1 (1 ∷ [])
  pub lost : ¬ ArePieces whole cut 0 (0 ∷ [])
  pub turned : ¬ ArePieces whole cut 0 (2 ∷ 0 ∷ [])
  pub none : ¬ ArePieces whole cut 3 []
  pub no_pattern : ¬ ArePieces whole cut 1 (1 ∷ 0xD0 ∷ [])

abbrev pub IsCut : Order → Type 0
IsCut order = IsCutFor whole cut two_pieces order

-- not where the pattern is repeated, be it before the restart position alone, nor where a repeat at the end is one of
-- the pattern at the restart position, nor where a pattern has other rows; a repeat of a pattern in one piece is none
-- of another one behind it
pub record CutsAreAllowed : Type 0 where
  pub transposed : IsCut (order (0 ∷ 0xF1 ∷ 1 ∷ 0 ∷ []))
  pub other : IsCut (order (0xD1 ∷ 1 ∷ 0 ∷ []))
  pub repeated : ¬ IsCut (order (0xD1 ∷ 0 ∷ []))
  pub through : ¬ IsCut (order (0xD1 ∷ 0xF1 ∷ 0 ∷ []))
  pub at_end : ¬ IsCut (from 0 (0 ∷ 0xD1 ∷ []))
  pub at_start : ¬ IsCut (from 2 (0xD1 ∷ 0 ∷ 1 ∷ []))
  pub other_rows : ¬ IsCut (order (2 ∷ []))

pub record PatternCutsAreAsWorked : Type 0 where
  pub orders : OrdersAreCut
  pub pieces : PiecesAreAsWorked
  pub allowed : CutsAreAllowed
