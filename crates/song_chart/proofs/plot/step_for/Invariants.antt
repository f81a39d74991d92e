-- None of the steps so far holds the clock cycles.
use Rattle.std.proofs.Common.{ℕ, ◌<◌, get_or}
use Rattle.song_chart.specs.Scale.{steps, top}
use Rattle.song_chart.proofs.plot.step_for.Given as goal

abbrev pub invariant-loop-step : goal.invariant-loop-step
invariant-loop-step l = (k : ℕ) → k < l.step-index → top (get_or steps k 0) < l.most
