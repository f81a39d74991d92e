-- To believe: what bytes spell, normal rows, the packer's text of rows, and the first fault of bytes that spell none.
pub mod Entries
pub mod PackedSpells
pub mod Normal
pub mod PackedText
pub mod Faults
-- To believe: the size of a packed song, the bound of its player's code, and where its image may stand.
pub mod Sizes
pub mod CodeBounds
pub mod ImagePlaces
-- To believe: a packed song read as a song, what its instruments hold, and when it stands for a song.
pub mod Unpacked
pub mod Holders
pub mod StandsFor
-- To believe: how many bytes of an orderlist are passed on the way to a pattern.
pub mod WalkCount
-- Claimed: laws of these, and bounds, places, packed songs, ways and holders worked out by hand.
pub mod WalkLaws
pub mod WorkedBounds
pub mod WorkedPlaces
pub mod WorkedUnpacked
pub mod WorkedWalks
pub mod WorkedHolders
