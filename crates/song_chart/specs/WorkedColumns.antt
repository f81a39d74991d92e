-- Columns, their heights and their places, worked by hand, and what is refused.
use Rattle.std.specs.Prelude.{◌≡◌, ◌≢◌, ℕ, ◌<◌, List, [], ◌∷◌, replicate}
use Rattle.song_chart.specs.declared.plot.Plot.{Plot}
use Rattle.song_chart.specs.Columns.{AreCalls, calls_per_column, column_count, columns, greatest, mean}
use Rattle.song_chart.specs.Scale.{step_for, height}
use Rattle.song_chart.specs.Plot.{plot_of, edge_of, columns_to}
use Rattle.song_chart.specs.Picture.{middle_of}

-- five calls, two in each column
abbrev pub five : List ℕ
five = 10 ∷ 40 ∷ 7 ∷ 8 ∷ 50 ∷ []

-- what can be drawn, and what can't
pub record CallsAreWorked : Type 0 where
  pub none : AreCalls []
  pub most : AreCalls (0 ∷ 1400000 ∷ [])
  pub not_longer : ¬ AreCalls (1400001 ∷ [])
  pub not_more : (n : ℕ) → 100000 < n → ¬ AreCalls (replicate n 0)

-- a column holds its calls and no others, and the last one the rest
pub record ColumnsAreWorked : Type 0 where
  pub none : columns 1 [] ≡ []
  pub one : columns 1 (6 ∷ []) ≡ (6 ∷ []) ∷ []
  pub pairs : columns 2 five ≡ (10 ∷ 40 ∷ []) ∷ (7 ∷ 8 ∷ []) ∷ (50 ∷ []) ∷ []
  pub none_left_out : columns 2 five ≢ (10 ∷ []) ∷ (7 ∷ []) ∷ (50 ∷ []) ∷ []
  pub with_the_rest : columns 2 five ≢ (10 ∷ 40 ∷ []) ∷ (7 ∷ 8 ∷ []) ∷ []
  pub in_order : columns 2 five ≢ (50 ∷ 10 ∷ []) ∷ (40 ∷ 7 ∷ []) ∷ (8 ∷ []) ∷ []
  pub one_call_each : calls_per_column 800 ≡ 1
  pub two_calls_each : calls_per_column 801 ≡ 2
  pub not_one_each : calls_per_column 801 ≢ 1
  pub never_none : calls_per_column 0 ≡ 1
  pub few : column_count (calls_per_column 801) 801 ≡ 401
  pub long : column_count (calls_per_column 12672) 12672 ≡ 792
  pub most : column_count (calls_per_column 100000) 100000 ≡ 800

-- the greatest is that of a column, and a mean is rounded down
pub record CyclesAreWorked : Type 0 where
  pub greatest_of_none : greatest [] ≡ 0
  pub greatest_of_some : greatest five ≡ 50
  pub of_a_column : greatest (7 ∷ 8 ∷ []) ≡ 8
  pub not_of_all : greatest (7 ∷ 8 ∷ []) ≢ 50
  pub mean_of_one : mean (50 ∷ []) ≡ 50
  pub mean_down : mean (7 ∷ 8 ∷ []) ≡ 7
  pub not_up : mean (7 ∷ 8 ∷ []) ≢ 8
  pub not_the_sum : mean (7 ∷ 8 ∷ []) ≢ 15

-- six steps of one line hold 378 clock cycles, and of the greatest step 1,890,000
pub record ScaleIsWorked : Type 0 where
  pub none : step_for 0 ≡ 1
  pub just_one : step_for 378 ≡ 1
  pub two : step_for 379 ≡ 2
  pub not_one : step_for 379 ≢ 1
  pub just_two : step_for 756 ≡ 2
  pub five_lines : step_for 757 ≡ 5
  pub just_before_last : step_for 756000 ≡ 2000
  pub last : step_for 756001 ≡ 5000
  pub most : step_for 1400000 ≡ 5000
  pub whole : height 1 378 ≡ 420
  pub down : height 1 377 ≡ 418
  pub not_up : height 1 377 ≢ 419
  pub small : height 1 6 ≡ 6
  pub high : height 5000 1400000 ≡ 311

-- three columns of two calls, 266 or 267 pixels wide
abbrev pub pairs : Plot
pairs = record { per_column = 2; columns = 3; step = 1 }

pub record PlacesAreWorked : Type 0 where
  pub of_five : plot_of five ≡ record { per_column = 1; columns = 5; step = 1 }
  pub of_none : plot_of [] ≡ record { per_column = 1; columns = 0; step = 1 }
  pub of_many : plot_of (replicate 801 6) ≡ record { per_column = 2; columns = 401; step = 1 }
  pub of_one : plot_of (1400000 ∷ []) ≡ record { per_column = 1; columns = 1; step = 5000 }
  pub left : edge_of pairs 0 ≡ 80
  pub first : edge_of pairs 1 ≡ 346
  pub second : edge_of pairs 2 ≡ 613
  pub right : edge_of pairs 3 ≡ 880
  pub left_of_none : edge_of (plot_of []) 0 ≡ 80
  pub to_none : columns_to pairs 0 ≡ 0
  pub to_first : columns_to pairs 1 ≡ 1
  pub to_second : columns_to pairs 2 ≡ 1
  pub to_third : columns_to pairs 3 ≡ 2
  pub not_before : columns_to pairs 3 ≢ 1
  pub middle : middle_of pairs 2 ≡ 479
  pub same_middle : middle_of pairs 3 ≡ 479
