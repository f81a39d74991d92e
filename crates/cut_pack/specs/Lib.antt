-- To believe: which song is packed for a song, and what packing it answers.
pub mod Chosen
pub mod Answers
-- Claimed: it is one song, which serves as the song does.
pub mod ChosenLaws
-- Claimed: small songs, what is packed for them and what that answers, worked out by hand.
pub mod WorkedChosen
