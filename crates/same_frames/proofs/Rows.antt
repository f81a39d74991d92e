-- Rows that stand for others, place by place.
use Rattle.std.proofs.Common.{◌≡◌, ℕ, zero, suc, ◌<◌, List, [], ◌∷◌, length, refl, ap, arith}
use Rattle.song_model.specs.declared.rows.Row.{Row}
use Rattle.song_model.specs.LookUp.{pattern_row}
use Rattle.same_frames.specs.Maps.{Maps, named_after, IsRowFor, AreRowsFor}
use Rattle.same_frames.specs.Alike.{named_above}

pub same_length : (maps : Maps) (last : ℕ) (rows others : List Row) → AreRowsFor maps last rows others →
    length others ≡ length rows
same_length maps last [] [] are = refl
same_length maps last [] (other ∷ others) are = absurd are
same_length maps last (row ∷ rows) [] are = absurd are
same_length maps last (row ∷ rows) (other ∷ others) are =
    ap (λ (n : ℕ). suc n) (same_length maps (named_after last row) rows others are.1)

pub row_at : (maps : Maps) (last : ℕ) (rows others : List Row) (place : ℕ) → AreRowsFor maps last rows others →
    place < length rows →
    IsRowFor maps (named_above last rows place) (pattern_row rows place) (pattern_row others place)
row_at maps last [] others place are inside = absurd (omega arith)
row_at maps last (row ∷ rows) [] place are inside = absurd are
row_at maps last (row ∷ rows) (other ∷ others) zero are inside = are.0
row_at maps last (row ∷ rows) (other ∷ others) (suc place) are inside =
    row_at maps (named_after last row) rows others place are.1 (omega arith)

-- the next place is below the row at this one
pub named_next : (last : ℕ) (rows : List Row) (place : ℕ) → place < length rows →
    named_above last rows (suc place) ≡ named_after (named_above last rows place) (pattern_row rows place)
named_next last [] place inside = absurd (omega arith)
named_next last (row ∷ rows) zero inside = refl
named_next last (row ∷ rows) (suc place) inside = named_next (named_after last row) rows place (omega arith)
