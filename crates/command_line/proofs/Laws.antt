-- The lemmas that upper crates may cite.

-- words name one job
pub use Rattle.command_line.proofs.Forms.{one_job, ok_mapped}
-- how long the pieces of a line are
pub use Rattle.command_line.proofs.Room.{digits_fit, wide_fits, byte_fits, two_digits, three_digits, seven_digits}
pub use Rattle.command_line.proofs.Room.{ten_digits, hex_fits, address_fits, features_fit, sum_fits}
