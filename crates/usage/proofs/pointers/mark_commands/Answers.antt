use Rattle.std.proofs.Common.{arith}
use Rattle.usage.specs.Pointers.{CommandPoints}
use Rattle.usage.proofs.AddedMarks.{below_more}
use Rattle.usage.proofs.TablePointers.{all_commands}
use Rattle.usage.proofs.pointers.mark_commands.Goals as goal

pub loop-command-preserved : goal.loop-command-preserved
loop-command-preserved c = below_more (CommandPoints c.args.place c.args.name c.args.commands.now)
    c.loop-command.command c.loop-command.invariant c.mark_if_pointing.ensures

pub returns : goal.returns
returns c = all_commands c.args.place c.args.name c.args.commands.now c.loop-command.command (omega arith)
    c.loop-command.invariant
