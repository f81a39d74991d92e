use Rattle.std.proofs.Common.{arith}
use Rattle.usage.specs.Checks.{IsTargetOf}
use Rattle.usage.proofs.AddedMarks.{below_more}
use Rattle.usage.proofs.TableRows.{named_of}
use Rattle.usage.proofs.checks.named_rows.Goals as goal

pub loop-p-preserved : goal.loop-p-preserved
loop-p-preserved c = below_more (IsTargetOf c.args.song.now c.args.name) c.loop-p.p c.loop-p.invariant
    c.mark_target.ensures

pub returns : goal.returns
returns c = named_of c.args.song.now c.args.name c.loop-p.p (omega arith) c.requires.programs.pointers
    c.loop-p.invariant
