use Rattle.song_chart.specs.Picture.{legend}
use Rattle.song_chart.proofs.Puts.{put_four}
use Rattle.song_chart.proofs.titles.put_legend.Goals as goal

pub returns : goal.returns
unfolding legend
returns c =
    put_four _ _ _ _ _ _ _ _ _ _ c.in_ok-put_box.ensures c.in_ok-put_text.ensures c.in_ok-put_box-2.ensures
    c.put_text-2.ensures
