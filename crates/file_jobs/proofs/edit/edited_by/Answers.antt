use Rattle.file_jobs.proofs.Edited.{bad_line_fails, run_fails}
use Rattle.file_jobs.proofs.edit.edited_by.Goals as goal

pub returns-in-Err-BadLine-clause-refused : goal.returns-in-Err-BadLine-clause-refused
returns-in-Err-BadLine-clause-refused c =
    bad_line_fails c.in-Err-BadLine.line c.in-Err-BadLine.field-0 c.in-Err-BadLine.field-0-is
    c.in-Err-BadLine.ensures.bad_line (cc (c.script_refusal.ensures, c.in-Err-BadLine.line-is))

pub returns : goal.returns
returns c = record {
  edited = tt;
  refused =
      run_fails _ c.in-Err.fault _ c.in-Ok.ensures.found (rw c.new-session.ensures at c.in-Err.ensures.stopped)
      c.run_refusal.ensures.wants c.run_refusal.ensures.says;
}
