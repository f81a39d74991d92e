use Rattle.same_frames.proofs.Themselves.{themselves_lem}
use Rattle.same_frames.proofs.claims.songs_agree_with_themselves.Goals as goal

pub returns : goal.returns
returns c = themselves_lem
