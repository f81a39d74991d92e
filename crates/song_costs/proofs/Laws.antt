-- The lemmas that upper crates may cite.

-- the kinds add up to the image, and the parts to the player
pub use Rattle.song_costs.proofs.Sums.{costs_add_up, parts_add_up}
-- a packed song has as many instruments as are used
pub use Rattle.song_costs.proofs.ByteKinds.{instruments_are}
-- the code of a player is short
pub use Rattle.song_costs.proofs.Sums.{few_bytes}
-- what is told of the parts, one part more at a time
pub use Rattle.song_costs.proofs.KeptLists.{kept_none, kept_told, kept_passed, kept_parts_add_up, kept_parts_are_one}
