use Rattle.jobs.proofs.Measured.{HasTaken}
use Rattle.jobs.proofs.measuring.count_steps.Given as goal

abbrev pub invariant-loop-call : goal.invariant-loop-call
invariant-loop-call l = HasTaken l.initial.runner l.subtune l.call l.steps l.runner
