use Rattle.std.proofs.Common.{◌≡◌, length, ap, arith}
use Rattle.song_chart.specs.Picture.{chart_text}
use Rattle.song_chart.proofs.Lengths.{chart_is_short}
use Rattle.song_chart.proofs.picture.draw.Goals as goal

pub returns-clause-text : goal.returns-clause-text
unfolding chart_text
returns-clause-text c =
    rw (c.as_slice.ensures, c.in_ok-elements.ensures, c.new-out.ensures) at c.in_ok-put_element.ensures

pub returns-clause-short : goal.returns-clause-short
unfolding chart_text
returns-clause-short c =
    let is : c.put_element.new.out ≡ chart_text c.args.subtune c.args.cycles.now c.args.again =
    rw (c.as_slice.ensures, c.in_ok-elements.ensures, c.new-out.ensures) at c.in_ok-put_element.ensures in
    let short = chart_is_short c.args.subtune c.args.cycles.now c.args.again in
    omega (arith, ap length is, short)
