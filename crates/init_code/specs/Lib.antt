-- To believe: the code that begins a subtune, and what it does.
pub mod InitBlock
-- Claimed: worked by hand.
pub mod WorkedInit
