-- The lemmas that upper crates may cite: what a file is loaded as.
pub use Rattle.sid_run.proofs.Images.{image_stands, elsewhere_is_zero, loaded_is_machine}
