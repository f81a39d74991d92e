-- What upper crates may cite.
pub mod Laws
-- Pieces of the tree, and the desk between them.
mod Pieces
mod TickDesks
-- What the code stands on.
mod TickGrounds
-- A row's command.
mod Commands
mod OnceChain
mod RowCommands
-- A note starts.
mod NoteRules
mod SoundBegins
mod NoteStarts
-- At a row, between rows, and the law.
mod AtRows
mod Between
mod Ticks
-- What a turn uses.
mod KeptUses
-- The code in memory.
mod Stepping
-- A row that is worked by hand.
mod WorkedTicks
