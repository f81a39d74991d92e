-- To believe: the desk, what instructions do on it and which a block may have, the tree of a block's lines, and what it means.
pub mod Desk
pub mod Steps
pub mod Plain
pub mod Trees
pub mod Meaning
-- Worked by hand.
pub mod WorkedScopes
