-- When the rows of a table may get new numbers: what is read in the programs of the new table is what is read in those
-- of the old one.
use Rattle.std.specs.Prelude.{◌≡◌, ◌≢◌, ◌⊎◌, ℕ, zero, suc, ◌+◌, Bool, true, false, ◌==◌}
use Rattle.std.specs.Prelude.{if◌then◌else◌, List, [], ◌∷◌, map}
use Rattle.song_model.specs.declared.tables.TableRow.{TableRow}
use Rattle.song_model.specs.LookUp.{IsNumbered, numbered, zero_table_row}
use Rattle.packing_rules.specs.Segments.{is_jump_row, is_end}

-- a row of the new table: a jump goes to the new number of its target
abbrev pub retargeted : (ℕ → ℕ) → TableRow → TableRow
retargeted to row = if is_jump_row row then record row { right = to row.right } else row

-- row p of a table, counted from 1
abbrev pub row_at : List TableRow → ℕ → TableRow
row_at rows p = numbered rows p zero_table_row

-- each of these rows of the old table is stood for by a row of the new one
pub record KeepsPrograms (pulse : Bool) (reached : ℕ → Bool) (old new : List TableRow) (to : ℕ → ℕ) : Type 0 where
  -- 0, which names no row, stays 0
  pub nothing : to 0 ≡ 0
  pub stored : (p : ℕ) → reached p ≡ true → IsNumbered new (to p)
  -- the left sides are the same, and but for jumps the right sides; a jump goes to what stands for its target
  pub row : (p : ℕ) → reached p ≡ true → row_at new (to p) ≡ retargeted to (row_at old p)
  -- where a program goes on, the next row is one of these, and is stood for by the next row
  pub goes_on : (p : ℕ) → reached p ≡ true → is_end pulse (row_at old p) ≡ false → reached (p + 1) ≡ true
  pub next : (p : ℕ) → reached p ≡ true → is_end pulse (row_at old p) ≡ false → to (p + 1) ≡ to p + 1
  -- a jump stops, or leads to one of these
  pub target : (p : ℕ) → reached p ≡ true → is_jump_row (row_at old p) ≡ true → (row_at old p).right ≢ 0 →
      reached (row_at old p).right ≡ true

-- one such map after another is one
abbrev pub MapsCompose : Type 0
MapsCompose = (pulse : Bool) (reached other : ℕ → Bool) (old between new : List TableRow) (to further : ℕ → ℕ) →
    KeepsPrograms pulse reached old between to → ((p : ℕ) → reached p ≡ true → other (to p) ≡ true) →
    KeepsPrograms pulse other between new further → KeepsPrograms pulse reached old new (λ p. further (to p))

-- ---- what is read

-- where a program goes from row p, whose sides these are: a jump leads to its target, and 0 stops
abbrev pub next_place : Bool → ℕ → TableRow → ℕ
next_place pulse p row = if is_jump_row row then row.right else if is_end pulse row then 0 else p + 1

-- the first n rows that a program reads from row p on, or fewer where it stops before
abbrev pub rows_read : Bool → List TableRow → ℕ → ℕ → List TableRow
rows_read pulse rows zero p = []
rows_read pulse rows (suc n) p =
    if p == 0 then [] else row_at rows p ∷ rows_read pulse rows n (next_place pulse p (row_at rows p))

-- a program that is read from what stands for a row reads what it reads from that row, for any number of rows: the same
-- left sides, and but for jumps the same right sides; a jump leads to what stands for its target
abbrev pub ProgramsReadTheSame : Type 0
ProgramsReadTheSame = (pulse : Bool) (reached : ℕ → Bool) (old new : List TableRow) (to : ℕ → ℕ) (n p : ℕ) →
    KeepsPrograms pulse reached old new to → (p ≡ 0) ⊎ (reached p ≡ true) →
    rows_read pulse new n (to p) ≡ map (retargeted to) (rows_read pulse old n p)
