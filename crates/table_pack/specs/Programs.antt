-- The programs of a table, and its segments as they are found.
use Rattle.std.specs.Prelude.{◌≡◌, ℕ, ◌≤◌, ◌<◌, ◌&&◌, Bool, true, List, length, slice_index, Contains}
use Rattle.song_model.specs.declared.tables.TableRow.{TableRow}
use Rattle.packing_rules.specs.Segments.{ProgramTable, IsWhole, begins, first_row, is_closed, first_equal, keeps, stand_in}
use Rattle.table_pack.specs.Marks.{is_marked}

-- a table with the marks of the rows that programs come to and of those that pointers name
abbrev pub programs_of : List TableRow → List Bool → List Bool → Bool → ProgramTable
programs_of rows marks entries pulse = record {
  rows = rows;
  reached = is_marked marks;
  entries = is_marked entries;
  pulse = pulse;
}

-- the whole table with these rows and marks, whatever its entries
pub record IsTableOf (table : ProgramTable) (rows : List TableRow) (marks : List Bool) (pulse : Bool) : Type 0 where
  pub whole : IsWhole table
  pub rows_are : table.rows ≡ rows
  pub reached : (p : ℕ) → table.reached p ≡ is_marked marks p
  pub pulse_is : table.pulse ≡ pulse

-- the first row of each reached row's segment
pub record AreFirsts (table : ProgramTable) (firsts : List ℕ) : Type 0 where
  pub whole : IsWhole table
  pub at : (p : ℕ) → table.reached p ≡ true → slice_index firsts p ≡ first_row table p

-- the same, with the rows and the marks
pub record AreSegments (table : ProgramTable) (rows : List TableRow) (marks : List Bool) (firsts : List ℕ) : Type 0 where
  pub firsts_are : AreFirsts table firsts
  pub rows_are : table.rows ≡ rows
  pub reached : (p : ℕ) → table.reached p ≡ is_marked marks p

abbrev pub AreEntries : ProgramTable → List Bool → Type 0
AreEntries table entries = (p : ℕ) → table.entries p ≡ is_marked entries p

-- of the marks below 256 those stay that pass the test
abbrev pub Narrows : (ℕ → Bool) → List Bool → List Bool → Type 0
Narrows test old new = (s : ℕ) → s < 256 → is_marked new s ≡ (is_marked old s && test s)

-- a closed segment before row s that is equal to none before it
pub record IsDifferent (table : ProgramTable) (s t : ℕ) : Type 0 where
  pub some : 1 ≤ t
  pub before : t < s
  pub begun : begins table t ≡ true
  pub closed : is_closed table t ≡ true
  pub first : first_equal table t ≡ t

-- these are all of them
pub record AreDifferent (table : ProgramTable) (s : ℕ) (firsts : List ℕ) : Type 0 where
  pub each : (t : ℕ) → Contains firsts t → IsDifferent table s t
  pub all : (t : ℕ) → IsDifferent table s t → Contains firsts t

-- whether a segment begins at row s and is closed, and which different ones are before it
pub record IsAsked (table : ProgramTable) (rows : List TableRow) (marks : List Bool) (firsts : List ℕ) (begun closed : Bool)
    (s : ℕ) (list : List ℕ) : Type 0 where
  pub segments : AreSegments table rows marks firsts
  pub begun_is : begun ≡ begins table s
  pub closed_is : closed ≡ is_closed table s
  pub different : AreDifferent table s list

-- where each segment begins, and where the one that stays for it
abbrev pub AreEquals : ProgramTable → List ℕ → Type 0
AreEquals table equals = (s : ℕ) → begins table s ≡ true → slice_index equals s ≡ first_equal table s

-- no segment begins behind its rows, and none that stays behind it
pub record AreStaying (rows : List TableRow) (marks : List Bool) (firsts equals : List ℕ) : Type 0 where
  pub first : (p : ℕ) → p ≤ length rows → is_marked marks p ≡ true → slice_index firsts p ≤ p
  pub stays : (p : ℕ) → p ≤ length rows → is_marked marks p ≡ true →
      slice_index equals (slice_index firsts p) ≤ slice_index firsts p

-- which rows stay, and what stands for each
pub record IsMapOf (table : ProgramTable) (keep : List Bool) (to : List ℕ) : Type 0 where
  pub keep_is : (p : ℕ) → is_marked keep p ≡ keeps table p
  pub to_is : (p : ℕ) → slice_index to p ≡ stand_in table p
