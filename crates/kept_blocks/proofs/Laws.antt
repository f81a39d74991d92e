-- The lemmas that upper crates may cite.

-- a layout with the set of a song and of options keeps their lines
pub use Rattle.kept_blocks.proofs.Layouts.{sets_keep_their_lines}
