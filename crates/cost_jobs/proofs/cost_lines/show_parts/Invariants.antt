use Rattle.jobs.specs.Costs.{part_line}
use Rattle.jobs.specs.Stands.{sink_state}
use Rattle.jobs.proofs.Laws.{PrintedSoFar}
use Rattle.cost_jobs.proofs.cost_lines.show_parts.Given as goal

abbrev pub invariant-loop-cost : goal.invariant-loop-cost
invariant-loop-cost g l =
    PrintedSoFar part_line l.fn.told l.cost-index
    (sink_state (g.K.Sink.written l.initial.out) (g.K.Sink.faults l.initial.out))
    (sink_state (g.K.Sink.written l.out) (g.K.Sink.faults l.out))
