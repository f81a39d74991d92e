-- The lemmas that upper crates may cite.

-- one song is packed for a song, which serves as the song does and isn't longer
pub use Rattle.cut_pack.proofs.Chosen.{chosen_serves_lem, chosen_no_longer_lem, one_is_packed_lem}
-- what that song tells of this one: features, facts, numbers, speeds and used parts
pub use Rattle.cut_pack.proofs.Asked.{features_of, facts_of, range_of, speeds_of, HasSets, sets_of_song, sets_of_both}
