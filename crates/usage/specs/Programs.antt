-- How the rows are found that the programs of one table come to.
use Rattle.std.specs.Prelude.{◌≡◌, ℕ, Bool, List, Some}
use Rattle.song_model.specs.declared.tables.TableRow.{TableRow}
use Rattle.song_model.specs.declared.tables.TableName.{TableName}
use Rattle.play_model.specs.Reached.{led_to}
use Rattle.usage.specs.Marks.{IsMarked}

-- the least set with these first rows, and with each row that one of it leads to
pub data IsReachedFrom (name : TableName) (rows : List TableRow) (IsFirstRow : ℕ → Type 0) : ℕ → Type 0 where
  first : {p : ℕ} → IsFirstRow p → IsReachedFrom name rows IsFirstRow p
  next : {q : ℕ} (p : ℕ) → IsReachedFrom name rows IsFirstRow p → led_to name rows p ≡ Some q →
      IsReachedFrom name rows IsFirstRow q

-- each row that a marked one leads to is marked
pub record IsClosed (name : TableName) (rows : List TableRow) (marks : List Bool) : Type 0 where
  pub led : (p q : ℕ) → IsMarked marks p → led_to name rows p ≡ Some q → IsMarked marks q

-- what is come to from this row, if it is a pointer
pub record ComesFrom (name : TableName) (rows : List TableRow) (pointers : List Bool) (from p : ℕ) : Type 0 where
  pub pointer : IsMarked pointers from
  pub reached : IsReachedFrom name rows (λ q. q ≡ from) p
