-- The lemmas that upper crates may cite.

-- in a packed song whose orderlists go on for ever each walk comes to a pattern within the count, which is a byte
pub use Rattle.packed_form.proofs.SongWalks.{walks_end, walk_counts_are_bytes}
-- where a packed song's instruments are in order, those that hold so much before their notes stand last
pub use Rattle.packed_form.proofs.LastHolders.{holders_stand_last}
