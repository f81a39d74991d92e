use Rattle.std.proofs.Common.{arith}
use Rattle.playroutine.proofs.JoinedLists.{joined_lem}
use Rattle.playroutine.proofs.registers.all_registers.Goals as goal

pub returns : goal.returns
returns c =
    joined_lem c.args.one c.args.two c.args.three c.args.filter (omega arith) (omega arith) (omega arith) (omega arith)
