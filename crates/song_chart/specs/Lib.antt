-- To believe: which calls a column holds, how high it is, how an element is written, and the picture.
pub mod Columns
pub mod Scale
pub mod Plot
pub mod Elements
pub mod Shapes
pub mod Picture
-- Claimed: what holds of columns and heights.
pub mod Laws
-- Worked by hand, and what is refused.
pub mod WorkedColumns
pub mod WorkedPictures
-- Inner: what the code's pieces say.
pub mod Pieces
