use Rattle.command_line.specs.Words.{texts}
use Rattle.jobs.proofs.Laws.{usage_ends}
use Rattle.goat_cli.proofs.top.run.Goals as goal

pub returns-in-Ok : goal.returns-in-Ok
returns-in-Ok g c = c.perform.ensures.ends (texts c.args.words.now) c.in-Ok.ensures.found

pub returns-in-Err : goal.returns-in-Err
returns-in-Err g c = rw c.says.ensures (usage_ends (texts c.args.words.now) _ _ c.in-Err.ensures.none)
