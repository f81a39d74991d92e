use Rattle.player_bound.specs.Programs.{program_blocks}
use Rattle.cost_jobs.proofs.Bounding.{bad_number_fails, numbers_fail}
use Rattle.cost_jobs.proofs.bound.admitted.Goals as goal

pub returns-in-Err-BadNumber-clause-refused : goal.returns-in-Err-BadNumber-clause-refused
returns-in-Err-BadNumber-clause-refused c =
    bad_number_fails (program_blocks c.args.packed.now c.args.options.now) c.args.text.now c.in-Err-BadNumber.field-0
    c.in-Err-BadNumber.line c.in-Err-BadNumber.ensures.fault c.in-Err-BadNumber.field-0-is
    (cc (c.bad_number.ensures, c.in-Err-BadNumber.line-is))

pub returns-clause-refused : goal.returns-clause-refused
returns-clause-refused c =
    numbers_fail (program_blocks c.args.packed.now c.args.options.now) c.args.text.now c.as_slice.result.now
    c.in_ok-bounds.field-0 c.in-Err.fault (rw c.as_slice.ensures c.in-Ok.ensures.fit)
    (rw c.as_slice.ensures c.in-Ok.ensures.text) c.in_ok-bounds.ensures c.in-Err.is c.fault_refusal.ensures
