-- Lists with one change keep what holds of each item.
pub mod ListLaws
-- Patterns that edits make are within their limits.
pub mod PatternLaws
-- What the tests of an orderlist's places tell.
pub mod OrderLaws
-- Songs whose pointers have moved.
pub mod PointerLaws
-- What the tests of a table's rows tell.
pub mod TableLaws
-- Each pointer that moves names the row that it named before.
pub mod SameNames
-- Items of a list replaced by others.
pub mod SpliceLaws
-- Patterns with their numbers, exchanged one after the other.
pub mod NumberedLaws
-- What was exchanged leads back.
pub mod BackLaws
-- What is unfolded to do edits of songs that are written out.
pub mod Doing
