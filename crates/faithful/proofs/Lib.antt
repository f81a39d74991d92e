-- What upper crates may cite.
pub mod Laws
mod Always
mod FreeCalls
mod SameSongs
mod WorkedPlaces
mod WorkedMachines
mod LoadedCalls
-- Small images, which are worked: their routines, their calls, the silent song, those that play it, and others.
mod Waiting
mod Routines
mod PlainRoutines
mod SmallImages
mod SilentFrames
mod RightImages
mod WorkedImages
mod LoadedImages
mod WrongRegisters
mod WrongStores
mod WrongTimers
mod WrongDependences
mod OrderedCalls
mod WrongOrders
