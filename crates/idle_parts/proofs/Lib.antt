-- What a voice's bytes are on a desk.
mod Reading
-- Where parts do nothing: those of the tick step, of the wave and the pulse step; and the others.
mod StepParts
mod LaterParts
mod FactParts
-- Which there are, what leads to them, and that they can be left out.
mod PartList
mod Fronts
mod PartPlaces
mod LeftOut
-- The lines of the bytes that are kept under a condition.
mod KeptBytes
mod KeptStores
mod KeptOrders
-- The conditions of variables.
mod NeededRows
-- Where they do something.
mod WorkedParts
