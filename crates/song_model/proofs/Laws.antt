-- The lemmas that upper crates may cite.

-- what an orderlist plays, and that one round says what comes for ever
pub use Rattle.song_model.proofs.Walks.{plays_are_entries_lem, cycle_some, one_cycle_is_enough_lem}
pub use Rattle.song_model.proofs.Plays.{plays_are_patterns_lem, transposes_in_range_lem}
-- where a walk stands before each play, and that its round has a play
pub use Rattle.song_model.proofs.Rests.{endless_cycle}
pub use Rattle.song_model.proofs.PlaceLaws.{comes_at, place_of_next}
-- what is found under a number, stored or not
pub use Rattle.song_model.proofs.LookUps.{instrument_in_range, table_row_in_range, pattern_rows_in_range, silent_is_playable}
-- no two songs are spelled alike
pub use Rattle.song_model.proofs.Spelling.{canonical_tells, spellings_differ_lem}
