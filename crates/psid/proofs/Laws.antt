-- The lemmas that upper crates may cite.

-- each field stands at its offset
pub use Rattle.psid.proofs.HeaderPieces.{fields_stand}
-- what is read may be written
pub use Rattle.psid.proofs.Taken.{read_is_writable}
-- what is written is read
pub use Rattle.psid.proofs.Written.{written_is_read, written_is_read_as_is}
