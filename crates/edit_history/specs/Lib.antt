-- To believe: a history of edits, and what each of them, an undo and a redo make of it.
pub mod History
-- Claimed: laws of these definitions, and histories that were worked out by hand.
pub mod HistoryLaws
pub mod WorkedHistories
-- Inner: what a session keeps in place of its history.
pub mod Kept
