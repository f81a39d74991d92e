-- The lemmas that upper crates may cite, and the words of proofs in which they are said.

-- what stands at a place of a list, and where the text of entries begins
pub use Rattle.entry_code.proofs.Texts.{Stands, stands_there, Begun, text_begins}
-- a packed pattern that is found, and a voice that is where it was in its orderlist
pub use Rattle.entry_code.proofs.Takes.{PatternAt, SamePlay, take_tree, takes}
-- an entry is begun, read and over
pub use Rattle.entry_code.proofs.Begins.{AtFetch, begin_leads, two_bytes}
-- the lines behind the first one of a tree
pub use Rattle.entry_code.proofs.LastBytes.{behind}
pub use Rattle.entry_code.proofs.LastBytes.{noted, KeepsNote}
pub use Rattle.entry_code.proofs.Readings.{Read, read_leads, taken, compared}
pub use Rattle.entry_code.proofs.Ends.{AtOffset, end_leads}
pub use Rattle.entry_code.proofs.Gates.{AtHeld, HoldersAt, TimerAt, KeepsGate, held_leads}
-- the rule's voice behind a row, and where it is in its song
pub use Rattle.entry_code.proofs.Moves.{InPlay, command_taken, fields_moved, moved_on, moved_out, plays_kept, row_kept}
pub use Rattle.entry_code.proofs.Moves.{same_pattern, same_walk, stands_next}
