-- The lemmas that upper crates may cite.

-- pieces that a sink takes, one after the other
pub use Rattle.goat_io.proofs.Pieces.{told_nothing, told_both}
-- what stands under a name after a file was put in
pub use Rattle.goat_io.proofs.FileLaws.{file_put, file_beside}
