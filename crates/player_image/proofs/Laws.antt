-- What upper crates may cite of the proofs of this crate.

-- images are players, and play
pub use Rattle.player_image.proofs.Whole.{images_are_players, images_play}
-- there is one, and the system changes only what the timer is set to
pub use Rattle.player_image.proofs.Alone.{images_are_one}
pub use Rattle.player_image.proofs.Systems.{systems_share_images}
-- how many bytes an image's listing takes
pub use Rattle.player_image.proofs.Assembled.{its_size}
-- how many variables have a byte in it
pub use Rattle.player_image.proofs.Placed.{placed_length}
