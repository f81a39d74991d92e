-- The lemmas that upper crates may cite.

-- a song is refused for one thing
pub use Rattle.play_model.proofs.Laws.{one_refusal}
-- one count of each kind of used parts, one set of features and one of facts
pub use Rattle.usage.proofs.OneParts.{one_features, one_facts, parts_are_the_songs_lem}
