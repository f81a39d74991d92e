-- To believe: what an entrance is and what its lines are, what it means, and when its code stands.
pub mod Entrances
pub mod Meaning
pub mod Listed
-- To believe: how many clock cycles a call takes.
pub mod Cycles
-- Claimed: what calls of entrances do.
pub mod EntranceLaws
pub mod Homes
-- Worked: two entrances, with their bytes.
pub mod WorkedEntrances
-- Inner: an entrance of what the code has.
pub mod Written
