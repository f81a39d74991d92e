use Rattle.jobs.proofs.Passes.{playable_songs_pass_lem}
use Rattle.jobs.proofs.claims.playable_songs_pass.Goals as goal

pub returns : goal.returns
returns c = playable_songs_pass_lem
