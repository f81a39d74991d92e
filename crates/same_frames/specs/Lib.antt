-- To believe: what new numbers are, when other look-ups agree with a song up to them, and when two states are alike.
pub mod Maps
pub mod Agreement
pub mod Alike
-- Claimed: rules keep states alike, frames and traces are the same and use no more, and orderlists with new numbers
-- play the same.
pub mod FrameLaws
pub mod UseLaws
pub mod OrderLaws
-- What is played before an instrument is named, and claimed: that the first one doesn't show then.
pub mod Begins
-- When two orderlists play the same rows, whatever patterns hold them, and claimed: that they sound the same.
pub mod SameRows
pub mod RowLists
-- To believe: when one song plays what another one plays.
pub mod SamePlays
-- Claimed: a small song with other numbers, worked out by hand.
pub mod WorkedMaps
-- Claimed: small songs that begin with one instrument or another, worked out by hand.
pub mod WorkedBegins
-- Claimed: a small song whose pattern is cut in two, worked out by hand.
pub mod WorkedRows
