-- The columns over which the path goes so far, and the calls that are left.
use Rattle.std.proofs.Common.{◌≡◌, ◌++◌, codes}
use Rattle.std.specs.Slice.Iter.{chunks_rest, chunks_size}
use Rattle.song_chart.specs.Picture.{path_over}
use Rattle.song_chart.proofs.Walk.{IsAt}
use Rattle.song_chart.proofs.areas.columns_path.Given as goal

abbrev pub invariant-loop-calls : goal.invariant-loop-calls
invariant-loop-calls l =
    (goal.iterator-loop-calls).can_next l.calls-iterator × (goal.iterator-loop-calls).is_finite l.calls-iterator
    × (chunks_size l.calls-iterator ≡ l.plot.per_column)
    × IsAt l.plot.per_column l.place l.cycles (chunks_rest l.calls-iterator)
    × (l.path ≡ codes "M80 480" ++ path_over l.shown l.plot l.cycles l.place)
