use Rattle.song_chart.specs.Picture.{again_words}
use Rattle.song_chart.proofs.Puts.{put_one}
use Rattle.song_chart.proofs.marks.put_again_words.Goals as goal

pub returns : goal.returns
unfolding again_words
returns c =
    put_one _ _ _ _ (rw (c.from.ensures, c.from-2.ensures) at c.put_text.ensures)
