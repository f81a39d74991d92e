use Rattle.packed_form.proofs.SongWalks.{walks_end}
use Rattle.packed_form.proofs.claims.walks_end.Goals as goal

pub returns : goal.returns
returns c = walks_end
