-- Spans, one more at a time, and which bytes they name.
mod Parted
mod Joining
mod Naming
mod Spanned
mod Sized
-- Worked by hand.
mod WorkedRoom
mod WorkedSpans
