-- The lemmas that upper crates may cite.
-- images keep the bounds that are admitted, of each song that plays the same, and those that are checked
pub use Rattle.player_bound.proofs.Kept.{images_keep_bounds, kept_within}
pub use Rattle.player_bound.proofs.OneAnswer.{kept_for}
-- bounds are those of both systems
pub use Rattle.player_bound.proofs.Systems.{systems_are_bound_alike}
-- which packed songs have the same program
pub use Rattle.player_bound.proofs.SamePrograms.{same_programs}
-- numbers have one answer, and the least ones are answered by their first ones
pub use Rattle.player_bound.proofs.OneAnswer.{one_answer}
pub use Rattle.player_bound.proofs.Checks.{least_bounds_are_least}
-- the least numbers of a packed song's program have room in 64 bits, and how many they are
pub use Rattle.player_bound.proofs.Fits.{init_fits, play_fits, numbers_are_few}
