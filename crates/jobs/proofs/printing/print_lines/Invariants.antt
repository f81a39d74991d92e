use Rattle.jobs.specs.Stands.{sink_state}
use Rattle.jobs.proofs.PrintedLines.{PrintedSoFar}
use Rattle.jobs.proofs.printing.print_lines.Given as goal

abbrev pub invariant-loop-line : goal.invariant-loop-line
invariant-loop-line g l =
    PrintedSoFar (λ line. line.now) l.fn.lines l.line-index
    (sink_state (g.K.Sink.written l.initial.out) (g.K.Sink.faults l.initial.out))
    (sink_state (g.K.Sink.written l.out) (g.K.Sink.faults l.out))
