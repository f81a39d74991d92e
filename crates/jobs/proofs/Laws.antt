-- The lemmas that upper crates may cite.

-- the clauses of the top call, of what stands after a run; and what stands, of how the run ended and what was printed last
pub use Rattle.jobs.proofs.Answered.{headline, outcome_comes, due_comes, usage_comes, packed_plays, listing_goes_back}
pub use Rattle.jobs.proofs.Answered.{script_makes_song, joined_plays, lengths_hold, repeating_runs, fileless_comes}
pub use Rattle.jobs.proofs.Answered.{counts, sink_counts, files_stay}
pub use Rattle.jobs.proofs.Printed.{run_stands, no_room}
-- a run that has come so far in the stages of its job, and how it goes on
pub use Rattle.jobs.proofs.Chains.{At, begun, song_begun, song_held, psid_begun, psid_held}
pub use Rattle.jobs.proofs.Chains.{listing_held, met_next, pass_more}
pub use Rattle.jobs.proofs.Passes.{met_passes}
-- and one that reads a second file
pub use Rattle.jobs.proofs.SecondFile.{BothBegun, both_begun, second_fails, both_fail}
-- how it ends: at one of them, before the first, or done
pub use Rattle.jobs.proofs.Chains.{hold_fails, refused, done_says, written, lines_over, stage_over, fileless_over}
pub use Rattle.jobs.proofs.Ends.{usage_ends, wants_first, read_ends, says_ends, has_last}
-- lines that are known before they are printed, and those of two lists
pub use Rattle.jobs.proofs.PrintedLines.{PrintedSoFar, none_printed, printed_on, printing_cut, all_printed, lines_then}
pub use Rattle.jobs.proofs.PrintedLines.{lines_failed}
-- what a folder and its counts are after one step and another
pub use Rattle.jobs.proofs.Told.{as_before, still, stays_itself, stays_on, counted_on}
-- and a sink after one put and another
pub use Rattle.jobs.proofs.Told.{appends_nothing, appends_both, appends_none, fails_then}
-- the program of a song's images is one
pub use Rattle.jobs.proofs.OneProgram.{one_program}
-- what a song asks of its player is one set
pub use Rattle.jobs.proofs.OneAsked.{one_asked}
-- a song that can be played has a subtune, and how long its image is at most
pub use Rattle.jobs.proofs.SmallSongs.{has_subtune, images_are_bounded}
-- what is told of the first subtunes of a file, and of one more
pub use Rattle.jobs.proofs.Lengths.{tell_none, tell_more}
-- how a self test ends
pub use Rattle.jobs.proofs.Measured.{selftest_ends}
