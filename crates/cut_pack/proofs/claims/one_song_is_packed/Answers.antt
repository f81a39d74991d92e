use Rattle.cut_pack.proofs.Chosen.{chosen_serves_lem, chosen_no_longer_lem, one_is_packed_lem}
use Rattle.cut_pack.proofs.claims.one_song_is_packed.Goals as goal

pub returns : goal.returns
returns c = record { serves = chosen_serves_lem; size = chosen_no_longer_lem; one = one_is_packed_lem }
