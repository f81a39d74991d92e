-- Which programs of a table are stored once, from this project's own packed form. The rows that programs come to fall
-- into segments; of closed segments that are equal the first one stays, and its rows stand for those of the others.
use Rattle.std.specs.Prelude.{◌≡◌, ◌≢◌, ℕ, zero, suc, ◌+◌, ◌-◌, Bool, true, false, not, ◌&&◌}
use Rattle.std.specs.Prelude.{◌||◌, ◌==◌, if◌then◌else◌, List, length}
use Rattle.std.specs.List.{list_all, find, range_with_len}
use Rattle.std.specs.Option.{unwrap_or}
use Rattle.song_model.specs.declared.tables.TableRow.{TableRow}
use Rattle.song_model.specs.LookUp.{IsNumbered, numbered, zero_table_row}

-- the wave, the pulse or the filter table of a song
pub record ProgramTable : Type 0 where
  -- rows are numbered from 1
  pub rows : List TableRow
  -- which of them a program comes to
  pub reached : ℕ → Bool
  -- which of them a pointer names
  pub entries : ℕ → Bool
  -- whether a left side of 0 stops a program, as in the pulse table
  pub pulse : Bool

-- the numbers from 1 to n
abbrev pub numbers : ℕ → List ℕ
numbers n = range_with_len 1 n

abbrev pub row_of : ProgramTable → ℕ → TableRow
row_of table p = numbered table.rows p zero_table_row

abbrev pub is_jump_row : TableRow → Bool
is_jump_row row = row.left == 0xFF

-- a program goes no further after a jump row, and after a pulse row with left side 0; a segment ends there
abbrev pub is_end : Bool → TableRow → Bool
is_end pulse row = is_jump_row row || (pulse && (row.left == 0))

-- what holds of the tables of a song that can be played: a row that is come to is stored, a pointer names such a row, and
-- a program goes on to such a row, or jumps to one
pub record IsWhole (table : ProgramTable) : Type 0 where
  pub stored : (p : ℕ) → table.reached p ≡ true → IsNumbered table.rows p
  pub entry : (p : ℕ) → table.entries p ≡ true → table.reached p ≡ true
  pub next : (p : ℕ) → table.reached p ≡ true → is_end table.pulse (row_of table p) ≡ false →
      table.reached (p + 1) ≡ true
  pub target : (p : ℕ) → table.reached p ≡ true → is_jump_row (row_of table p) ≡ true →
      (row_of table p).right ≢ 0 →
      table.reached (row_of table p).right ≡ true

-- ---- segments

-- a segment begins at a reached row where the row before isn't reached, or ends one
abbrev pub begins : ProgramTable → ℕ → Bool
begins table p =
    table.reached p && (not (table.reached (p - 1)) || is_end table.pulse (row_of table (p - 1)))

-- the first row of row p's segment: the last one up to p where a segment begins
unfoldable pub first_row : ProgramTable → ℕ → ℕ
first_row table zero = 0
first_row table (suc p) = if begins table (suc p) then suc p else first_row table p

-- row q is one of the segment that begins at row s
abbrev pub is_in : ProgramTable → ℕ → ℕ → Bool
is_in table s q = table.reached q && (first_row table q == s)

-- ---- closed segments

-- to go to row q from outside is to go to the segment's first row, or not into it
abbrev pub enters : ProgramTable → ℕ → ℕ → Bool
enters table s q = not (is_in table s q) || (q == s)

-- a jump of the segment stays in it, or stops; a jump from outside enters at its first row
abbrev pub jumps : ProgramTable → ℕ → ℕ → ℕ → Bool
jumps table s p target =
    if is_in table s p then (target == 0) || is_in table s target else enters table s target

-- what row p says: whether a pointer names it, and where it jumps to
abbrev pub is_closed_at : ProgramTable → ℕ → ℕ → Bool
is_closed_at table s p =
    (not (table.entries p) || enters table s p)
    && (not (table.reached p && is_jump_row (row_of table p)) || jumps table s p (row_of table p).right)

-- every pointer and every jump into the segment names its first row, and its own jump stays in it
unfoldable pub is_closed : ProgramTable → ℕ → Bool
is_closed table s = list_all (is_closed_at table s) (numbers (length table.rows))

-- ---- equal segments

-- the right sides of two jumps are both 0, or as far from the first rows s and t
abbrev pub is_as_far : ℕ → ℕ → ℕ → ℕ → Bool
is_as_far s t x y =
    if x == 0 then y == 0 else not (y == 0) && (x + t == y + s)

abbrev pub are_alike : ℕ → ℕ → TableRow → TableRow → Bool
are_alike s t x y =
    (x.left == y.left) && (if is_jump_row x then is_as_far s t x.right y.right else x.right == y.right)

-- at this distance from their first rows both segments have a row, and the two are alike, or neither has one
abbrev pub is_equal_at : ProgramTable → ℕ → ℕ → ℕ → Bool
is_equal_at table s t d =
    if is_in table s (s + d)
    then is_in table t (t + d) && are_alike s t (row_of table (s + d)) (row_of table (t + d))
    else not (is_in table t (t + d))

unfoldable pub are_equal : ProgramTable → ℕ → ℕ → Bool
are_equal table s t = list_all (is_equal_at table s t) (range_with_len 0 (length table.rows))

-- ---- the rows that stay

-- where the first closed segment begins that is equal to the one that begins at s; it stays itself where it isn't closed
unfoldable pub first_equal : ProgramTable → ℕ → ℕ
first_equal table s =
    if is_closed table s
    then unwrap_or (find (λ t. begins table t && is_closed table t && are_equal table s t) (numbers s)) s
    else s

-- the row is reached, and its segment isn't dropped
unfoldable pub keeps : ProgramTable → ℕ → Bool
keeps table p = table.reached p && (first_equal table (first_row table p) == first_row table p)

-- the row that stands for row p, as far from its segment's first row; none does for a row that isn't reached
unfoldable pub stand_in : ProgramTable → ℕ → ℕ
stand_in table p =
    if table.reached p then first_equal table (first_row table p) + (p - first_row table p) else 0
