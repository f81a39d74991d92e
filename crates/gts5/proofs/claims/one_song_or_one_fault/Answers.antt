use Rattle.gts5.proofs.Canonicals.{one_or_other}
use Rattle.gts5.proofs.claims.one_song_or_one_fault.Goals as goal

pub returns : goal.returns
returns c = one_or_other
