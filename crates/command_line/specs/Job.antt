-- The job that the code's type stands for.
use Rattle.command_line.specs.declared.words.Job.{Job}
use Rattle.command_line.specs.declared.words.Job.TheVariants as code
use Rattle.command_line.specs.Words as asked

abbrev pub job_of : Job → asked.Job
job_of (code.Pack input output psid address zero_page options chip) =
    asked.Pack input.now output.now psid address zero_page options chip
job_of (code.Copy input output) = asked.Copy input.now output.now
job_of (code.Edit input script output) = asked.Edit input.now script.now output.now
job_of (code.Check input) = asked.Check input.now
job_of (code.Trace input subtune frames options) = asked.Trace input.now subtune frames options
job_of (code.Run input subtune frames) = asked.Run input.now subtune frames
job_of (code.Selftest number) = asked.Selftest number
job_of (code.Disasm input output) = asked.Disasm input.now output.now
job_of (code.Asm input output) = asked.Asm input.now output.now
job_of (code.Join input second output) = asked.Join input.now second.now output.now
job_of (code.Help topic) = asked.Help topic
job_of code.Version = asked.Version
job_of (code.Show input output) = asked.Show input.now output.now
job_of (code.Parts input options) = asked.Parts input.now options
job_of (code.Bound input output options) = asked.Bound input.now output.now options
job_of (code.BoundCheck input certificate options) = asked.BoundCheck input.now certificate.now options
job_of (code.Measure input calls) = asked.Measure input.now calls
job_of (code.Chart input output subtune calls) = asked.Chart input.now output.now subtune calls
