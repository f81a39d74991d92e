use Rattle.sid_run.specs.State.{loaded}
use Rattle.jobs.proofs.Measured.{HaveTaken}
use Rattle.jobs.proofs.measuring.steps_of.Given as goal

abbrev pub invariant-loop-subtune : goal.invariant-loop-subtune
invariant-loop-subtune l = HaveTaken (loaded l.psid) l.subtune l.steps
