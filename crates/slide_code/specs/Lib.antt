-- To believe: the code of the effect step.
pub mod SlideBlock
-- Claimed: worked by hand.
pub mod WorkedSlides
