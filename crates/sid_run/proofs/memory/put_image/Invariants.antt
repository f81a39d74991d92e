use Rattle.std.proofs.Common.{◌≡◌}
use Rattle.sid_run.proofs.Images.{partly_loaded}
use Rattle.sid_run.proofs.memory.put_image.Given as goal

abbrev pub invariant-loop-i : goal.invariant-loop-i
invariant-loop-i l = l.memory ≡ partly_loaded l.load l.image l.i
