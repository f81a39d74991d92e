-- The lemmas that upper crates may cite.

-- a kept number has its rank as its new number
pub use Rattle.table_pack.proofs.Ranks.{rank_most, rank_kept, rank_left, rank_rises, rank_positive}
-- new numbers keep programs, also where rows of equal programs stand for each other
pub use Rattle.table_pack.proofs.KeptPrograms.{renumberings_keep, keeps_order, stored_once}
-- the rows of a renumbering are those that are kept; those that stay are the packed table's, which keeps programs
pub use Rattle.table_pack.proofs.KeptRows.{rows_are_kept, stored_once_is_packed, packed_tables_keep, packed_programs_are_read}
