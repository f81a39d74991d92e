-- The lemmas that upper crates may cite.

-- the marks of used parts are tests of what the song uses
pub use Rattle.song_pack.proofs.MadeTables.{used_sets}
-- a packed song has as many instruments as its song uses, and the size of its song
pub use Rattle.song_pack.proofs.Sizes.{instruments_are_counted, size_is}
-- all that a frame of a complete song looks up is stored
pub use Rattle.song_pack.proofs.FoundRows.{complete_songs_find_all}
-- a fault that is handed on has the cause that it had
pub use Rattle.song_pack.proofs.HandedOn.{err_caused}
