-- The lemmas that upper crates may cite.

-- a song that adds no row uses and asks for no more
pub use Rattle.same_uses.proofs.NoRows.{no_rows_lem}
