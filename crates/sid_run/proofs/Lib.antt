-- The door: what upper crates may cite.
pub mod Laws
-- Inner: an image put in byte by byte, and the registers read one after the other.
mod Images
mod Registers
