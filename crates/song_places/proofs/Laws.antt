-- The lemmas that upper crates may cite.

-- a song uses a feature, has a fact, and keeps a part, exactly where some place needs it; and at most one place is the
-- first
pub use Rattle.song_places.proofs.FeaturePlaces.{features_are_needed}
pub use Rattle.song_places.proofs.FactPlaces.{facts_are_needed}
pub use Rattle.song_places.proofs.KeptParts.{parts_are_needed, own_places_are_first, fact_places_are_first}
pub use Rattle.song_places.proofs.OnePlace.{first_places_are_one}
-- a feature with the first place is used, and the parts that its places keep are kept
pub use Rattle.song_places.proofs.OnePlace.{one_first}
pub use Rattle.song_places.proofs.KeptParts.{kept_for, kept_for_none}
-- first places of small songs, worked by hand
pub use Rattle.song_places.proofs.WorkedPlaces.{transposes_are_worked, portamentos_are_worked, tables_are_worked, risen}
pub use Rattle.song_places.proofs.WorkedFactPlaces.{gate_notes_are_worked, facts_are_worked, pairs_are_worked}
pub use Rattle.song_places.proofs.WorkedFactPlaces.{subtunes_are_worked}
pub use Rattle.song_places.proofs.WorkedHolds.{holds_are_worked}
pub use Rattle.song_places.proofs.WorkedVoices.{voices_are_worked}
pub use Rattle.song_places.proofs.CommonPlaces.{crossing_first}
pub use Rattle.song_places.proofs.SharedPlaces.{wave_places_are_worked}
pub use Rattle.song_places.proofs.FilterPlaces.{filter_places_are_worked}
