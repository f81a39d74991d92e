-- To believe: that a song's orderlists play no row that another song's don't. Claimed: it uses no more.
pub mod SameUses
-- Claimed: small songs that play no row that another doesn't, and others that do, worked out by hand.
pub mod WorkedUses
