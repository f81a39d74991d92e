-- The speed table with each row once.
use Rattle.std.specs.Prelude.{◌≡◌, ℕ, ◌<◌, Bool, true, false, List, [], ◌∷◌, ◌++◌, if◌then◌else◌}
use Rattle.std.specs.List.{list_any}
use Rattle.song_model.specs.declared.tables.TableRow.{TableRow}
use Rattle.song_model.specs.declared.songs.Song.{Song}
use Rattle.song_model.specs.LookUp.{IsNumbered, speed_row}
use Rattle.packing_rules.specs.ProgramMaps.{row_at}
use Rattle.packing_rules.specs.Renumbering.{same_row, speed_rows, speed_number}

-- the used rows of the speed table under new numbers
pub record IsSpeedMerge (song : Song) (used : ℕ → Bool) (rows : List TableRow) (to : ℕ → ℕ) : Type 0 where
  -- each row once, in the order in which they are first seen
  pub rows_are : rows ≡ speed_rows song used
  -- each used number has the number of its row there, any other none
  pub number : (p : ℕ) → used p ≡ true → p < 256 → to p ≡ speed_number song used p
  pub none : (p : ℕ) → used p ≡ false → to p ≡ 0
  -- so a look-up by the new number finds the old row
  pub stored : (p : ℕ) → used p ≡ true → p < 256 → IsNumbered rows (to p)
  pub row : (p : ℕ) → used p ≡ true → p < 256 → row_at rows (to p) ≡ speed_row song p

-- both sides of a row
abbrev pub sides_of : TableRow → ℕ × ℕ
sides_of row = (row.left, row.right)

-- the rows with this one at the end, where it isn't there
abbrev pub with_row : List TableRow → TableRow → List TableRow
with_row rows row = if list_any (same_row row) rows then rows else rows ++ row ∷ []
