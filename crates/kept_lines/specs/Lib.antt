-- To believe: what a song asks for, which lines are kept, and with which numbers a subtune begins.
pub mod Asked
pub mod KeptLines
pub mod Starts
-- Claimed.
pub mod KeptLaws
-- Worked by hand.
pub mod WorkedKept
pub mod WorkedStarts
