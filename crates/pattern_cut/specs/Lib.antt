-- To believe: the pieces of patterns, and the orderlist that names them; and claimed: that it has the same rows.
pub mod Cuts
-- To believe: the pieces of a song's patterns, the song whose patterns they are, and how long they are chosen to be.
pub mod Pieces
pub mod CutSongs
pub mod Choice
-- Claimed: songs whose patterns are cut play the same and ask for the same, and what the choice weighs.
pub mod CutLaws
-- Claimed: small orderlists, patterns in pieces, choices and songs that stand in for others, worked out by hand.
pub mod WorkedCuts
pub mod WorkedPieces
pub mod WorkedChoice
pub mod WorkedStandIns
