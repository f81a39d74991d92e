-- The lemmas that upper crates may cite.

-- each place is one of those that are counted, and these are no more than variables
pub use Rattle.variable_places.proofs.Within.{places_are_within, counts_are_few}
-- where more conditions hold there are no fewer, and 61 are there always
pub use Rattle.variable_places.proofs.Rising.{counts_rise, counts_are_no_fewer}
-- no two variables that have a byte have the same place
pub use Rattle.variable_places.proofs.Apart.{places_are_apart}
-- the voices have the same bytes, 7 places apart; and the second funk tempo stands behind the first
pub use Rattle.variable_places.proofs.Voices.{voices_are_alike, voices_are_in_step, funk_is_together}
-- those that aren't cleared have the first bytes, and all others stand behind
pub use Rattle.variable_places.proofs.First.{uncleared_are_first, cleared_are_behind}
-- each label that a kept line names has a byte
pub use Rattle.variable_places.proofs.Covered.{named_have_bytes}
