use Rattle.std.proofs.Common.{slice_index, arith}
use Rattle.sid_run.proofs.Registers.{are_bytes_at}
use Rattle.sid_run.proofs.memory.sid_registers.Goals as goal

pub returns : goal.returns
returns c =
    are_bytes_at (slice_index c.args.memory.now) 0xD400 25 c.loop-i.register-items c.loop-i.invariant.0
    (λ k lt. c.loop-i.invariant.1 k (omega arith))
