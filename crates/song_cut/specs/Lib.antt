-- Inner: marks of patterns, numbers of pieces, and the table of a song's pieces.
pub mod Marks
pub mod Numbers
pub mod Tables
-- Inner: a walk along numbers of pieces, and the lengths of orderlists.
pub mod Seen
pub mod Orders
-- Inner: where pieces stand in a song that is cut.
pub mod Cutting
