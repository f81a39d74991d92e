use Rattle.song_chart.specs.Picture.{frame}
use Rattle.song_chart.proofs.Puts.{put_three}
use Rattle.song_chart.proofs.titles.put_frame.Goals as goal

pub returns : goal.returns
unfolding frame
returns c =
    put_three _ _ _ _ _ _ _ _ c.in_ok-put_element.ensures c.in_ok-put_box.ensures
    (rw (c.from.ensures, c.calls_word.ensures) at c.put_element-2.ensures)
