-- To believe: what an image is made of.
pub mod Images
-- Claimed: that it is a player.
pub mod ImageLaws
-- Claimed: that there is one, and what the system changes in it.
pub mod Systems
-- Worked by hand.
pub mod WorkedImages
