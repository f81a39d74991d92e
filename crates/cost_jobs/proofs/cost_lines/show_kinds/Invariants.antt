use Rattle.jobs.specs.Costs.{kind_line}
use Rattle.jobs.specs.Stands.{sink_state}
use Rattle.jobs.proofs.Laws.{PrintedSoFar}
use Rattle.cost_jobs.specs.Kinds.{kind_name, kind_bytes}
use Rattle.cost_jobs.proofs.cost_lines.show_kinds.Given as goal

abbrev pub invariant-loop-kind : goal.invariant-loop-kind
invariant-loop-kind g l =
    PrintedSoFar (λ kind. kind_line (kind_name kind) (kind_bytes l.fn.costs kind)) l.kind-items l.kind-index
    (sink_state (g.K.Sink.written l.initial.out) (g.K.Sink.faults l.initial.out))
    (sink_state (g.K.Sink.written l.out) (g.K.Sink.faults l.out))
