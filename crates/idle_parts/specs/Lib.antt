-- To believe: when lines do nothing, which parts there are, and what leads to them.
pub mod Idle
pub mod IdleParts
pub mod PartList
pub mod Fronts
pub mod Places
pub mod LeftOut
pub mod KeptBytes
pub mod NeededRows
-- Worked by hand.
pub mod WorkedParts
