use Rattle.song_chart.specs.Picture.{areas}
use Rattle.song_chart.proofs.Puts.{put_two}
use Rattle.song_chart.proofs.areas.put_areas.Goals as goal

pub returns : goal.returns
unfolding areas
returns c =
    put_two _ _ _ _ _ _ (rw (c.as_slice.ensures, c.in_ok-greatest.ensures) at c.in_ok-put_area.ensures)
    (rw (c.as_slice-2.ensures, c.in_ok-means.ensures) at c.put_area-2.ensures)
