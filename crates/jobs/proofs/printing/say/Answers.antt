use Rattle.jobs.specs.Endings as ends
use Rattle.jobs.proofs.printing.say.Goals as goal

pub returns-in-Ok : goal.returns-in-Ok
returns-in-Ok g c = rw (c.status.ensures, c.in-Ok.ensures.told) at c.put_line.ensures

pub returns-in-Err : goal.returns-in-Err
returns-in-Err g c = ends.wanting c.want_memory.ensures
