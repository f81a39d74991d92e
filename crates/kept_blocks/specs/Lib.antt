-- To believe: when a layout keeps a song's lines. Claimed: that one with the song's set does.
pub mod KeptBlocks
-- Worked by hand.
pub mod WorkedLayouts
