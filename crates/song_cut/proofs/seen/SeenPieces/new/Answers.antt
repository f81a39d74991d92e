use Rattle.std.proofs.Common.{refl}
use Rattle.song_cut.proofs.Gathering.{none_seen}
use Rattle.song_cut.proofs.seen.SeenPieces.new.Goals as goal

pub returns-clause-marked : goal.returns-clause-marked
returns-clause-marked c = none_seen _ refl c.new.ensures
