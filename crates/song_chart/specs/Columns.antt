-- The calls of a run, side by side in columns. This is the project's own.
use Rattle.std.specs.Prelude.{ℕ, ◌*◌, ◌/◌, ◌≤◌, max, List, length, map, take, drop, sum, All}
use Rattle.std.specs.List.{fold, range_with_len}
use Rattle.std.specs.Int.{div_ceil}
use Rattle.song_chart.specs.declared.columns.TheConstants.{MOST_CALLS, MOST_CYCLES}
use Rattle.song_chart.specs.declared.columns.Shown.{Shown}
use Rattle.song_chart.specs.declared.columns.Shown.TheVariants.{Greatest, Mean}

-- no more calls than are drawn, none of which takes more clock cycles than a call may
pub record AreCalls (cycles : List ℕ) : Type 0 where
  pub few : length cycles ≤ MOST_CALLS
  pub short : All (λ call. call ≤ MOST_CYCLES) cycles

-- ---- which calls

-- how many calls each column holds: so many that there are at most 800 columns
abbrev pub calls_per_column : ℕ → ℕ
calls_per_column calls = max (div_ceil calls 800) 1

-- how many columns so many calls take
abbrev pub column_count : ℕ → ℕ → ℕ
column_count per calls = div_ceil calls per

-- the calls of a column, counted from 0: those in a row behind the ones of the columns before it, and in the last column
-- the rest
abbrev pub column : ℕ → List ℕ → ℕ → List ℕ
column per cycles place = take per (drop (place * per) cycles)

abbrev pub columns : ℕ → List ℕ → List (List ℕ)
columns per cycles = map (column per cycles) (range_with_len 0 (column_count per (length cycles)))

-- ---- what is shown of them

-- the most clock cycles; 0 where there are no calls
abbrev pub greatest : List ℕ → ℕ
greatest calls = fold max 0 calls

-- their mean, rounded down
abbrev pub mean : List ℕ → ℕ
mean calls = sum calls / length calls

abbrev pub cycles_shown : Shown → List ℕ → ℕ
cycles_shown Greatest calls = greatest calls
cycles_shown Mean calls = mean calls
