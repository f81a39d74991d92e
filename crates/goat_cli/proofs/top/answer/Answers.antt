use Rattle.jobs.proofs.Laws.{run_stands, no_room}
use Rattle.goat_cli.proofs.top.answer.Goals as goal

pub returns-in_default : goal.returns-in_default
returns-in_default g c = no_room c.want_memory.ensures

pub returns : goal.returns
returns g c = run_stands _ c.run-ended.ensures c.print.ensures
