use Rattle.jobs.proofs.Measured.{BytesSoFar}
use Rattle.jobs.proofs.measuring.bytes_sum.Given as goal

abbrev pub invariant-loop-register : goal.invariant-loop-register
invariant-loop-register l = BytesSoFar l.registers l.register-index l.sum
