-- Laws of pointers that move: each names the row that it named before.
use Rattle.std.specs.Prelude.{◌≡◌, ◌≢◌, ℕ, ◌+◌, ◌-◌, ◌<◌, ◌≤◌, List, length}
use Rattle.std.specs.List.{insert, remove}
use Rattle.song_model.specs.declared.tables.TableRow.{TableRow}
use Rattle.song_model.specs.LookUp.{numbered, IsNumbered, zero_table_row}
use Rattle.edit_ops.specs.declared.shifts.Shift.TheVariants.{Up, Down}
use Rattle.edit_ops.specs.Pointers.{shifted}

-- a pointer to a stored row names that row when another has come before row g
abbrev pub NamesItAfterAnInsert : Type 0
NamesItAfterAnInsert =
    (rows : List TableRow) (g pointer : ℕ) (row : TableRow) → 0 < g → g ≤ length rows + 1 → length rows < 255 →
    IsNumbered rows pointer →
    numbered (insert rows (g - 1) row) (shifted (Up g) pointer) zero_table_row ≡ numbered rows pointer zero_table_row

-- a pointer to another stored row than row g names that row when row g has gone
abbrev pub NamesItAfterADelete : Type 0
NamesItAfterADelete =
    (rows : List TableRow) (g pointer : ℕ) → IsNumbered rows g → IsNumbered rows pointer → pointer ≢ g →
    numbered (remove rows (g - 1)) (shifted (Down g) pointer) zero_table_row ≡ numbered rows pointer zero_table_row

-- a pointer at nothing stays one
abbrev pub PointsAtNothingStill : Type 0
PointsAtNothingStill = (g : ℕ) → 0 < g → (shifted (Up g) 0 ≡ 0) × (shifted (Down g) 0 ≡ 0)
