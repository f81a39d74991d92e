-- The most of the calls so far.
use Rattle.std.proofs.Common.{◌≡◌, take}
use Rattle.song_chart.specs.Columns.{greatest}
use Rattle.song_chart.proofs.columns.greatest.Given as goal

abbrev pub invariant-loop-cycles : goal.invariant-loop-cycles
invariant-loop-cycles l = l.most ≡ greatest (take l.cycles-index l.calls)
