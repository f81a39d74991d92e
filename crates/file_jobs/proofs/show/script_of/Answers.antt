use Rattle.file_jobs.proofs.Showing.{script_fails}
use Rattle.file_jobs.proofs.show.script_of.Goals as goal

pub returns-in-Err-TooLarge-clause-refused : goal.returns-in-Err-TooLarge-clause-refused
returns-in-Err-TooLarge-clause-refused c =
    script_fails c.in-Err-TooLarge.length c.in-Err-TooLarge.field-0 c.in-Err-TooLarge.field-0-is
    c.in-Err-TooLarge.ensures.too_large c.too_large_script.ensures
