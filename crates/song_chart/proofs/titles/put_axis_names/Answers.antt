use Rattle.song_chart.specs.Picture.{axis_names}
use Rattle.song_chart.proofs.Puts.{put_three}
use Rattle.song_chart.proofs.titles.put_axis_names.Goals as goal

pub returns : goal.returns
unfolding axis_names
returns c =
    put_three _ _ _ _ _ _ _ _ c.in_ok-put_turned_text.ensures c.in_ok-put_turned_text-2.ensures c.put_text.ensures
