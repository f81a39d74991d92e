use Rattle.song_chart.specs.Picture.{grid_line}
use Rattle.song_chart.proofs.Puts.{put_three}
use Rattle.song_chart.proofs.grid.put_grid_line.Goals as goal

pub returns : goal.returns
unfolding grid_line
returns c =
    put_three _ _ _ _ _ _ _ _ c.in_ok-put_line.ensures c.in_ok-put_text.ensures c.put_text-2.ensures
