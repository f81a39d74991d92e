use Rattle.jobs.proofs.Measured.{SummedSoFar}
use Rattle.jobs.proofs.measuring.subtune_sum.Given as goal

abbrev pub invariant-loop-call : goal.invariant-loop-call
invariant-loop-call l = SummedSoFar l.song l.subtune l.call l.player l.sum
