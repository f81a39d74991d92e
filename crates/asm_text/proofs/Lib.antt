-- The door: what upper crates may cite.
pub mod Laws
-- Inner: digits and names are read as they are written, and so are lines.
mod SameBytes
mod Digits
mod NameLaws
mod WordLaws
-- Inner: the lines of a text.
mod TextLaws
mod SameTexts
-- Inner: the listing that statements name, and what is wrong with them.
mod Laid
mod Pairs
mod Tests
mod Told
mod Answered
mod Looking
-- Inner: the listing of an image, and that it is read back.
mod Printed
mod Follows
mod Round
mod Ways
-- Inner: texts that are written out.
mod Worked
