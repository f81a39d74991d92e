-- The lemmas that upper crates may cite: how a memory that is worked by hand is what a law asks for, by tests that are
-- computed.

-- a voice is playing in it
pub use Rattle.player_memory.proofs.Standing.{are_held, bytes_stand, are_shared, shared_bytes_stand, are_tempos}
pub use Rattle.player_memory.proofs.Standing.{playing_in}
-- bytes are as before
pub use Rattle.player_memory.proofs.Standing.{have_same, are_same}
-- variables that begin as a subtune does hold each voice at the start
pub use Rattle.player_memory.proofs.Starting.{beginnings_play}
-- variables that stand one behind the other are apart
pub use Rattle.player_memory.proofs.Pieces.{InOnePiece, in_one_piece, off_piece, list_behind}
-- only the nine fields of instruments are read, those that aren't are bytes of the packed song, and at most two bytes
-- stand for all instruments
pub use Rattle.player_memory.proofs.ReadFields.{read_below, unread_few, unlisted_few, subtunes_are_large, left_out_within}
pub use Rattle.player_memory.proofs.ReadFields.{shared_few}
-- a layout like the one that is worked has a room, and places outside of it
pub use Rattle.player_memory.proofs.WorkedRooms.{IsLaid, IsOpen, AreLaid, off_variables, room_in, uses_in, behind_slides}
-- the entries of a pattern that is worked
pub use Rattle.player_memory.proofs.WorkedFetching.{note_is, each_is}
