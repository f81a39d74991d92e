-- What upper crates may cite of the proofs of this crate.

-- labels that kept lines name stand
pub use Rattle.narrow_runs.proofs.Standing.{named_labels_stand}
-- a tree, and an entrance, does the same in a layout that has no places but those that two others have in common
pub use Rattle.narrow_runs.proofs.Trees.{agrees_less, trees_are_narrow}
pub use Rattle.narrow_runs.proofs.Entrances.{entrances_are_narrow}
