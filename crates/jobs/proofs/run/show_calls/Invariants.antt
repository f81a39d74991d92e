use Rattle.jobs.specs.Stands.{sink_state}
use Rattle.jobs.proofs.Calls.{CallsSoFar}
use Rattle.jobs.proofs.run.show_calls.Given as goal

abbrev pub invariant-loop-call : goal.invariant-loop-call
invariant-loop-call g l =
    CallsSoFar l.initial.runner l.number l.call l.runner
    (sink_state (g.K.Sink.written l.initial.out) (g.K.Sink.faults l.initial.out))
    (sink_state (g.K.Sink.written l.out) (g.K.Sink.faults l.out))
