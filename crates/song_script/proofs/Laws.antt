-- The lemmas that upper crates may cite.

-- the edits of a song's script, and the text, make the song of the empty one
pub use Rattle.song_script.proofs.WholeLaws.{edits_make_the_song, scripts_make_the_song}
