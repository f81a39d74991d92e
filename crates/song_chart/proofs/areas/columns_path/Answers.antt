use Rattle.std.proofs.Common.{◌≡◌, ◌<◌, min, length, ap, ◌∙◌, sym, arith}
use Rattle.std.specs.Slice.Iter.{chunks_rest, chunks_size}
use Rattle.song_chart.specs.declared.plot.Plot.{Plot}
use Rattle.song_chart.specs.Plot.{plot_of}
use Rattle.song_chart.proofs.Paths.{shown_fits, columns_of, path_begins, path_more, path_whole}
use Rattle.song_chart.proofs.Walk.{at_first, one_more, at_end}
use Rattle.song_chart.proofs.areas.columns_path.Goals as goal

pub loop-calls-init : goal.loop-calls-init
loop-calls-init c =
    let gives = c.into_iter-calls-iterator.ensures.into_iter_gives in
    let size = ap chunks_size gives ∙ c.chunks-calls-items.ensures.size in
    let rest = ap chunks_rest gives ∙ c.chunks-calls-items.ensures.rest in
    let laid : c.args.plot.per_column ≡ (plot_of c.args.cycles.now).per_column = ap (λ (p : Plot). p.per_column) c.requires.plot in
    let some : 0 < c.args.plot.per_column = omega (arith, laid) in (
      omega (arith, size, some),
      tt,
      size,
      at_first c.args.plot.per_column c.args.cycles.now _ some rest,
      path_begins c.args.shown c.args.plot c.args.cycles.now _ _ c.new-path.ensures c.in_ok-extend.ensures.ok,
    )

pub put_column-requires-clause-fits : goal.put_column-requires-clause-fits
put_column-requires-clause-fits c =
    let held = c.loop-calls.invariant in
    let size = held.2 in
    let per = c.args.plot.per_column in
    let some : 0 < per = let one = held.0 in omega (arith, one, size) in
    let steps = c.in-Some.ensures.steps in
    let goes = one_more per c.loop-calls.place c.args.cycles.now _ c.in-Some.calls.now _ some held.3 steps.1.0
    (steps.1.1 ∙ ap (λ n. min n (length (chunks_rest c.loop-calls.calls-iterator))) size) steps.1.2 in
    shown_fits c.args.shown c.args.cycles.now c.in-Some.calls.now c.args.plot c.loop-calls.place c.cycles_shown.result
    c.requires.calls c.requires.plot goes.column_is c.cycles_shown.ensures

pub loop-calls-preserved : goal.loop-calls-preserved
loop-calls-preserved c =
    let held = c.loop-calls.invariant in
    let size = held.2 in
    let per = c.args.plot.per_column in
    let some : 0 < per = let one = held.0 in omega (arith, one, size) in
    let steps = c.in-Some.ensures.steps in
    let goes = one_more per c.loop-calls.place c.args.cycles.now _ c.in-Some.calls.now _ some held.3 steps.1.0
    (steps.1.1 ∙ ap (λ n. min n (length (chunks_rest c.loop-calls.calls-iterator))) size) steps.1.2 in
    let same = steps.0 ∙ size in (
      omega (arith, same, some),
      tt,
      same,
      goes.is_at,
      path_more c.args.shown c.args.plot c.args.cycles.now c.in-Some.calls.now c.loop-calls.place c.cycles_shown.result _ _
          goes.column_is c.cycles_shown.ensures held.4 c.in_ok-put_column.ensures,
    )

pub returns : goal.returns
returns c =
    let held = c.loop-calls.invariant in
    let size = held.2 in
    let some : 0 < c.args.plot.per_column = let one = held.0 in omega (arith, one, size) in
    let all = at_end c.args.plot.per_column c.loop-calls.place c.args.cycles.now _ some held.3 c.in-None.ensures.steps.1.0 in
    path_whole c.args.shown c.args.plot c.args.cycles.now c.loop-calls.place _ _
    (all ∙ sym (columns_of c.args.cycles.now c.args.plot c.requires.plot)) held.4 c.in_ok-extend-2.ensures.ok
