-- What holds of columns and of their heights.
use Rattle.std.specs.Prelude.{◌≡◌, ℕ, ◌<◌, ◌≤◌, Some, List, length, slice_index, All}
use Rattle.std.specs.List.{flat_map}
use Rattle.song_chart.specs.Columns.{AreCalls, calls_per_column, columns, greatest, mean}
use Rattle.song_chart.specs.Scale.{step_for, height}
use Rattle.song_chart.specs.Picture.{dearest}

-- the columns one behind the other are the calls: none is lost, counted twice, or in another order
abbrev pub ColumnsAreTheCalls : Type 0
ColumnsAreTheCalls = (per : ℕ) (cycles : List ℕ) → 0 < per → flat_map (λ calls. calls) (columns per cycles) ≡ cycles

-- no column is empty, and none holds more than it should
abbrev pub ColumnsAreFilled : Type 0
ColumnsAreFilled =
    (per : ℕ) (cycles : List ℕ) → 0 < per → All (λ calls. (0 < length calls) × (length calls ≤ per)) (columns per cycles)

-- there are at most 800 columns
abbrev pub ColumnsAreFew : Type 0
ColumnsAreFew = (cycles : List ℕ) → length (columns (calls_per_column (length cycles)) cycles) ≤ 800

-- a mean is at most the greatest
abbrev pub MeansAreLow : Type 0
MeansAreLow = (calls : List ℕ) → mean calls ≤ greatest calls

-- where there are calls, one is marked: none takes more clock cycles, and each before it takes less
pub record IsFirstDearest (cycles : List ℕ) (place : ℕ) : Type 0 where
  pub inside : place < length cycles
  pub most : All (λ call. call ≤ slice_index cycles place) cycles
  pub first : (k : ℕ) → k < place → slice_index cycles k < slice_index cycles place

abbrev pub DearestIsMarked : Type 0
DearestIsMarked =
    (cycles : List ℕ) → 0 < length cycles → (place : ℕ) × (dearest cycles ≡ Some place) × IsFirstDearest cycles place

-- no column is higher than the plot
abbrev pub HeightsFit : Type 0
HeightsFit =
    (per : ℕ) (cycles : List ℕ) → AreCalls cycles →
    All (λ calls. height (step_for (greatest cycles)) (greatest calls) ≤ 420) (columns per cycles)
