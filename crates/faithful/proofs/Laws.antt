-- The lemmas that upper crates may cite.
-- what plays always is faithful
pub use Rattle.faithful.proofs.Always.{always_is_faithful}
-- what an image does for one song it does for each that plays the same
pub use Rattle.faithful.proofs.SameSongs.{same_songs_lem}
-- since the same calls may be made of it, and lead to the same machines
pub use Rattle.faithful.proofs.SameSongs.{made_for, led_for}
