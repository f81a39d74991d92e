-- To believe: the texts of the player, and what is so of them.
pub mod Texts
pub mod Steps
pub mod Facts
