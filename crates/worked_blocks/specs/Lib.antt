-- Claimed: rows that are fetched, worked by hand.
pub mod WorkedFetches
pub mod WorkedGrounds
pub mod WorkedEdges
-- Claimed: what the definitions of the two entrances take and refuse, and a song in memory worked by hand.
pub mod WorkedFrames
pub mod WorkedNote
