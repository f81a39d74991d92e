-- What is told of numbers.
mod WorkedAnswers
-- Small images: their calls, one that keeps within bounds exactly, and those that take longer.
mod ComputedCalls
mod KeptExactly
mod WorkedBounds
