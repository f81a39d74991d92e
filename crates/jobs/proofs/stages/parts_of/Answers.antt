use Rattle.std.proofs.Common.{refl}
use Rattle.jobs.specs.Lines.{unplayable_line}
use Rattle.jobs.specs.Endings as ends
use Rattle.jobs.proofs.stages.parts_of.Goals as goal

pub returns-in-Err-clause-refused : goal.returns-in-Err-clause-refused
returns-in-Err-clause-refused c = λ files name holds.
    let refused = (c.in-Err.ensures.refused c.in-Err.refusal).0 refl in
    ends.ends (unplayable_line c.in-Err.refusal) (c.args.song.now, c.in-Err.refusal, holds, refused, refl)
    c.unplayable_refusal.ensures
