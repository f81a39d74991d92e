-- What upper crates may cite of the proofs of this crate.

-- the code that begins a subtune does it
pub use Rattle.init_code.proofs.Starting.{init_block_starts}
