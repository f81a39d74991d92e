use Rattle.jobs.specs.Stands as stands
use Rattle.jobs.proofs.printing.want_memory.Goals as goal

pub returns-in-Err-Failed : goal.returns-in-Err-Failed
returns-in-Err-Failed g c =
    let is = c.in-Err-Failed.field-0-is in
    let part = c.in-Err-Failed.ensures.failed (cc) in
    let counts = rw is at c.in-Err-Failed.ensures.faults in
    stands.failed part.0 c.number-in-Err-Failed.ensures (record { told = part.1; faults = counts })
