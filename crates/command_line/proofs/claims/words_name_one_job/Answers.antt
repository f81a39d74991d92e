use Rattle.command_line.proofs.Forms.{one_job}
use Rattle.command_line.proofs.claims.words_name_one_job.Goals as goal

pub returns : goal.returns
returns c = one_job
