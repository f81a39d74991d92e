-- Rows that are fetched.
mod WorkedFetches
mod WorkedGrounds
mod WorkedOthers
mod WorkedEdges
-- The two entrances, and a song in memory.
mod WorkedFrames
mod WorkedNote
