-- The door: what upper crates may cite.
pub mod Laws
-- Inner: texts and edits of statements one after the other.
mod EachLaws
mod DigitLaws
mod PutLaws
mod AfterLaws
-- Inner: lists of which the front is filled, and what each kind of edit makes.
mod ListLaws
mod KindLaws
-- Inner: the parts are made.
mod MadeLaws
-- Inner: the parts are filled.
mod OrderLaws
mod FillLaws
mod PatternFills
-- Inner: all edits, one after the other.
mod WholeLaws
-- Inner: the text is a script of the edits, which is done to its end.
mod FreeLaws
mod ReadLaws
mod SaidLaws
mod FoldLaws
-- Inner: what computes texts of songs that are written out.
mod OnTexts
