-- What new numbers of a table's rows mean, by the look-up.
use Rattle.std.specs.Prelude.{◌≡◌, ℕ, Bool, true, false, List, length}
use Rattle.song_model.specs.declared.tables.TableRow.{TableRow}
use Rattle.packing_rules.specs.ProgramMaps.{row_at}
use Rattle.packing_rules.specs.Renumbering.{rank}

-- the rows that are kept, in order
pub record IsRenumbering (keep : ℕ → Bool) (old new : List TableRow) (to : ℕ → ℕ) : Type 0 where
  -- a look-up by the new number finds the old row
  pub row : (p : ℕ) → keep p ≡ true → row_at new (to p) ≡ row_at old p
  -- the new number is how many rows are kept up to this one; one that isn't kept has none
  pub number : (p : ℕ) → keep p ≡ true → to p ≡ rank keep p
  pub none : (p : ℕ) → keep p ≡ false → to p ≡ 0
  -- no other row is there
  pub count : length new ≡ rank keep (length old)
