-- To believe: marks, and what new numbers of a table mean.
pub mod Marks
pub mod TableMaps
pub mod Speeds
-- To believe: which programs a table has. Inner: its segments as they are found.
pub mod Programs
-- Claimed: laws of these, and tables worked out by hand.
pub mod TableLaws
pub mod WorkedTables
