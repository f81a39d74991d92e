-- Where calls and clock cycles lie: 800 by 420 pixels, from 80 to 880 across and from 480 up to 60. This is the project's
-- own.
use Rattle.std.specs.Prelude.{ℕ, ◌+◌, ◌*◌, ◌/◌, max, List, length}
use Rattle.song_chart.specs.declared.plot.Plot.{Plot}
use Rattle.song_chart.specs.Columns.{calls_per_column, column_count, greatest}
use Rattle.song_chart.specs.Scale.{step_for, top, height}

-- the plot of calls that take these clock cycles
abbrev pub plot_of : List ℕ → Plot
plot_of cycles = record {
  per_column = calls_per_column (length cycles);
  columns = column_count (calls_per_column (length cycles)) (length cycles);
  step = step_for (greatest cycles);
}

abbrev pub top_of : Plot → ℕ
top_of plot = top plot.step

abbrev pub height_of : Plot → ℕ → ℕ
height_of plot cycles = height plot.step cycles

-- where the first columns, so many, end; where there are no columns, the left edge is that of none
abbrev pub edge_of : Plot → ℕ → ℕ
edge_of plot columns = 80 + columns * 800 / max plot.columns 1

-- how many columns the first calls, so many, take: the last of them is that of the last call
abbrev pub columns_to : Plot → ℕ → ℕ
columns_to plot calls = column_count plot.per_column calls
