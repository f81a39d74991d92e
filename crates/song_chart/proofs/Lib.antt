-- Citable from other crates.
pub mod Laws
-- Columns, and what is shown of them.
mod Quotients
mod Greatest
mod ColumnLaws
mod Walk
-- The first step that holds clock cycles, and heights.
mod Steps
-- What calls add to a text.
mod Puts
mod Paths
mod Dearest
mod Wholes
-- How long the text is.
mod Lengths
-- Worked by hand.
mod OnPictures
