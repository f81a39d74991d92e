use Rattle.file_jobs.proofs.Listed.{listing_fails}
use Rattle.file_jobs.proofs.asm.assembled_of.Goals as goal

pub returns-in-Err-clause-refused : goal.returns-in-Err-clause-refused
returns-in-Err-clause-refused c =
    listing_fails c.in-Err.fault c.in-Err.ensures.fault c.listing_refusal.ensures.wants c.listing_refusal.ensures.says
