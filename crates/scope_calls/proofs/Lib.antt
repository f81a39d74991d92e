-- What a block's lines leave of the registers.
mod Keeping
mod Clear
-- Where the code stands.
mod Sizing
mod Places
-- The run of a call.
mod Moving
mod Walking
mod Calling
mod Whole
-- What stays.
mod Staying
-- How long it takes, and on what it depends.
mod Weighing
mod Isolation
-- What `assemble` takes.
mod Homes
mod WorkedEntrances
-- The door: what upper crates may cite.
pub mod Laws
