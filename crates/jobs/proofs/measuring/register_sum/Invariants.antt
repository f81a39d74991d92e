use Rattle.jobs.proofs.Measured.{SubtunesSummed}
use Rattle.jobs.proofs.measuring.register_sum.Given as goal

abbrev pub invariant-loop-subtune : goal.invariant-loop-subtune
invariant-loop-subtune l = SubtunesSummed l.song l.subtune l.sum
