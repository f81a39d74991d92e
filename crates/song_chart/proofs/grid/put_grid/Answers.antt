use Rattle.song_chart.proofs.Puts.{range_more}
use Rattle.song_chart.specs.Picture.{grid_line}
use Rattle.song_chart.proofs.grid.put_grid.Goals as goal

pub loop-place-preserved : goal.loop-place-preserved
loop-place-preserved c =
    range_more (grid_line c.args.step) c.loop-place.place _ _ _ c.loop-place.invariant c.in_ok-put_grid_line.ensures
