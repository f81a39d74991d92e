-- The sum of the calls so far, which has room.
use Rattle.std.proofs.Common.{◌≡◌, ◌*◌, ◌≤◌, take, sum}
use Rattle.song_chart.proofs.columns.mean.Given as goal

abbrev pub invariant-loop-cycles : goal.invariant-loop-cycles
invariant-loop-cycles l =
    (l.sum ≡ sum (take l.cycles-index l.calls)) × (l.sum ≤ 1400000 * l.cycles-index)
