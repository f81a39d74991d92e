-- To believe: what a text spells, and the first fault of a text that spells nothing.
pub mod Spells
pub mod Faults
-- Claimed: what holds of them, and faults worked out by hand.
pub mod FormatLaws
pub mod WorkedFaults
-- Inner: how the reader goes through a text, and how its answers stand to that.
pub mod Reading
pub mod Gives
