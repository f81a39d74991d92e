-- The lemmas that upper crates may cite.

-- a text spells one song at most, and a text that spells one has no fault
pub use Rattle.gts5.proofs.Canonicals.{spells_once, spells_has_no_fault}
-- one song or one fault, and what the canonical spelling spells
pub use Rattle.gts5.proofs.Canonicals.{one_or_other, canonical_is_spelled, canonical_has_no_fault, canonical_is_short}
