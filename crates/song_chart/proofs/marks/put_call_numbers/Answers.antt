use Rattle.std.proofs.lemmas.Bool.{ne_eqb}
use Rattle.song_chart.specs.Picture.{call_numbers}
use Rattle.song_chart.proofs.Puts.{put_two}
use Rattle.song_chart.proofs.marks.put_call_numbers.Goals as goal

pub returns : goal.returns
unfolding call_numbers
returns c =
    rw (ne_eqb c.args.calls 0 c.if-calls-eq0.false)
    (put_two _ _ _ _ _ _ c.in_ok-put_text.ensures c.put_text-2.ensures)
