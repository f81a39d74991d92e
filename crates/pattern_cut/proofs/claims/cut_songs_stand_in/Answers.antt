use Rattle.pattern_cut.proofs.StandIns.{cut_songs_lem}
use Rattle.pattern_cut.proofs.claims.cut_songs_stand_in.Goals as goal

pub returns : goal.returns
returns c = cut_songs_lem
