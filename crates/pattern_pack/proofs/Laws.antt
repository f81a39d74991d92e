-- The lemmas that upper crates may cite.

-- what is packed spells the normal rows, and nothing shorter does; it has at most four bytes for each row
pub use Rattle.pattern_pack.proofs.PatternLaws.{packed_is_spelled, none_is_shorter, text_is_short}
-- bytes spell one list of rows, which are those of a pattern, and unpacking gives them
pub use Rattle.pattern_pack.proofs.PatternLaws.{spelled_once, spelled_are_patterns, rows_or_fault}
pub use Rattle.pattern_pack.proofs.Whole.{spelled_is_unpacked}
-- the faults of bytes are those of the grammar
pub use Rattle.pattern_pack.proofs.FirstFaults.{bad_bytes_are_first, ends_are_missing, lengths_are_bad}
-- fetching a normal row does what fetching the row does, but for the parameter of command 0
pub use Rattle.pattern_pack.proofs.NormalRows.{normal_rows_are_fetched}
