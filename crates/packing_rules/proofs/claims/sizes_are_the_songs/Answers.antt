use Rattle.packing_rules.proofs.SizesOfSongs.{sizes_are_the_songs}
use Rattle.packing_rules.proofs.claims.sizes_are_the_songs.Goals as goal

pub returns-clause-one : goal.returns-clause-one
returns-clause-one c = sizes_are_the_songs
