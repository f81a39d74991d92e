-- To believe: which numbers of the frequency table a song asks for.
pub mod Numbers
-- To believe: the range of them, and that a song asks for no others than another one.
pub mod Range
-- Claimed: a song has one range, and no number above 128 is in it.
pub mod RangeLaws
-- Claimed: the numbers of small songs, worked out by hand.
pub mod WorkedNumbers
-- Claimed: their ranges, worked out by hand.
pub mod WorkedRange
