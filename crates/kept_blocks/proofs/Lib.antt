-- What upper crates may cite.
pub mod Laws
-- A layout with the set of a song and of options keeps their lines.
mod Layouts
mod WorkedLayouts
