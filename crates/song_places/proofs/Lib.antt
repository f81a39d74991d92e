-- The door: what upper crates may cite.
pub mod Laws
-- The order of places, and the search part after part.
mod Ranks
mod Search
mod Leaves
mod OrderPlaces
mod PatternPlaces
mod MarkedPlaces
mod SongPlaces
-- Features, facts and places.
mod FeaturePlaces
mod SeveralSubtunes
mod HeardBytes
mod FactPlaces
mod OnePlace
-- Parts and their places.
mod PlaceOrder
mod PartFeatures
mod PartFacts
mod KeptParts
mod PartSteps
-- Worked by hand.
mod WorkedPlaces
mod CommonPlaces
mod WorkedFactPlaces
mod WorkedHolds
mod WorkedVoices
mod SharedPlaces
mod FilterPlaces
