-- The lemmas that upper crates may cite.

-- in a set are exactly the conditions that hold; behind the last one none holds
pub use Rattle.kept_lines.proofs.Sets.{sets_are_exact, no_more}
-- and in what a song asks for its features and facts
pub use Rattle.kept_lines.proofs.Sets.{asked_is_exact}
