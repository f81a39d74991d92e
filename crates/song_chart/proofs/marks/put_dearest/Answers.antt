use Rattle.std.proofs.Common.{Some, None, ap, ◌∙◌, arith}
use Rattle.song_chart.specs.Columns.{greatest}
use Rattle.song_chart.specs.Plot.{top_of}
use Rattle.song_chart.proofs.Dearest.{dearest_is, no_mark, some_mark}
use Rattle.song_chart.proofs.Steps.{step_holds}
use Rattle.song_chart.proofs.marks.put_dearest.Goals as goal

pub put_mark-requires-clause-fits : goal.put_mark-requires-clause-fits
put_mark-requires-clause-fits c =
    let most = c.from.ensures ∙ c.greatest-most.ensures in
    let top = ap top_of c.requires.plot in
    let holds = step_holds c.args.cycles.now c.requires.calls in
    omega (arith, most, top, holds)

pub returns-in-None : goal.returns-in-None
returns-in-None c =
    no_mark c.args.out.now c.args.plot (greatest c.args.cycles.now) _
    (dearest_is c.args.cycles.now c.greatest-most.result None c.greatest-most.ensures c.in-None.ensures)

pub returns-in-Some : goal.returns-in-Some
returns-in-Some c =
    some_mark _ c.args.out.now _ c.args.plot (greatest c.args.cycles.now) _ (Some c.in-Some.place)
    (dearest_is c.args.cycles.now c.greatest-most.result (Some c.in-Some.place) c.greatest-most.ensures c.in-Some.ensures)
    (rw (c.middle_of.ensures, c.from.ensures, c.greatest-most.ensures) at c.put_mark.ensures)
