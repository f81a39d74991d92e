-- The lemmas that upper crates may cite.

-- there are as many parts as bytes, and they add up to the code
pub use Rattle.image_parts.proofs.Sums.{code_takes_its_parts, parts_add_up, all_are_parts, unkept_parts_have_none}
-- two small songs, worked by hand
pub use Rattle.image_parts.proofs.WorkedLengths.{notes_are_measured}
-- the code, and an image, are within their bounds
pub use Rattle.image_parts.proofs.Bounds.{code_is_short, code_is_bounded, images_are_bounded}
-- and so is what each image has
pub use Rattle.image_parts.proofs.Rest.{rest_is_exact, rest_is_bounded}
-- what is read of a packed song, and what stands in front of its frequencies
pub use Rattle.image_parts.proofs.ReadBytes.{unread_most, unread_is, shared_most, shared_is, front_is, read_is, read_most}
pub use Rattle.image_parts.proofs.ReadBytes.{unlisted_is, speeds_are_read}
