-- Facts that are worked by hand.
mod WorkedFacts
