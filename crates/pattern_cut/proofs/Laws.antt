-- The lemmas that upper crates may cite.

-- a song whose patterns are cut can be played, plays the same, and asks for the same
pub use Rattle.pattern_cut.proofs.StandIns.{cut_songs_lem, UsesSame, cut_uses_same}
-- the chosen pieces fit, and weigh no more than pieces of any one length
pub use Rattle.pattern_cut.proofs.Choices.{chosen_cuts_fit_lem, chosen_ways_weigh_no_more_lem}
-- rows are the same where their bytes are
pub use Rattle.pattern_cut.proofs.RowTexts.{rows_same, rows_themselves}
-- small songs in pieces, and songs that stand in for others
pub use Rattle.pattern_cut.proofs.WorkedChoice.{pattern_choices_are_as_worked_lem}
pub use Rattle.pattern_cut.proofs.WorkedStandIns.{pattern_stand_ins_are_as_worked_lem}
