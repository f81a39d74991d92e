-- The grid lines that are there, behind what was there before.
use Rattle.std.proofs.Common.{◌≡◌, ◌++◌}
use Rattle.std.specs.List.{flat_map, range_with_len}
use Rattle.song_chart.specs.Elements.{elements_text}
use Rattle.song_chart.specs.Picture.{grid_line}
use Rattle.song_chart.proofs.grid.put_grid.Given as goal

abbrev pub invariant-loop-place : goal.invariant-loop-place
invariant-loop-place l =
    l.out ≡ l.fn.out ++ elements_text (flat_map (grid_line l.step) (range_with_len 0 l.place))
