-- What upper crates may cite of the proofs of this crate.

-- how trees are made of those of their pieces
pub use Rattle.player_text.proofs.Facts.{are_made}
-- blocks have lines, rest on few registers, and name few labels
pub use Rattle.player_text.proofs.Facts.{are_blocks, have_lines, rest_on_few, name_few}
-- how long and how heavy they are
pub use Rattle.player_text.proofs.Facts.{are_measured}
