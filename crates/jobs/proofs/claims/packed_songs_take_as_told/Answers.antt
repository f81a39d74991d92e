use Rattle.jobs.proofs.Everywhere.{packed_songs_take_as_told}
use Rattle.jobs.proofs.claims.packed_songs_take_as_told.Goals as goal

pub returns : goal.returns
returns c = packed_songs_take_as_told
