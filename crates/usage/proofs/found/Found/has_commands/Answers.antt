use Rattle.std.proofs.Common.{arith}
use Rattle.usage.proofs.FactMarks.{none_between}
use Rattle.usage.proofs.found.Found.has_commands.Goals as goal

pub returns : goal.returns
returns c = (
  λ t. absurd (cc),
  λ h. absurd (none_between c.args.song.now c.args.from c.args.to
      (λ k low high. c.loop-command.invariant k low (omega arith)) h),
)
