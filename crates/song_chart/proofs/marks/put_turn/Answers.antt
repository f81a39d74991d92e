use Rattle.std.proofs.lemmas.Bool.{le-leb}
use Rattle.song_chart.specs.Picture.{turn}
use Rattle.song_chart.proofs.Puts.{put_one}
use Rattle.song_chart.proofs.marks.put_turn.Goals as goal

pub returns : goal.returns
unfolding turn
returns c =
    rw (le-leb c.args.call c.args.calls c.if-call-calls.false)
    (put_one _ _ _ _ (rw (c.edge-x.ensures, c.columns_to.ensures) at c.put_line.ensures))
