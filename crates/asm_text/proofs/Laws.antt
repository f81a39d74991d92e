-- The lemmas that upper crates may cite.

-- a line says one thing, and a text is read in one way
pub use Rattle.asm_text.proofs.Ways.{lines_say_one_thing, texts_read_in_one_way}
-- a text is a listing with one origin and one list of statements; where nothing is wrong with these it has no fault
pub use Rattle.asm_text.proofs.SameTexts.{IsOneListing, one_listing}
pub use Rattle.asm_text.proofs.Ways.{sound_listings_have_no_fault}
-- the listing of an image is read back, and how long it is
pub use Rattle.asm_text.proofs.Round.{listings_read_back}
pub use Rattle.asm_text.proofs.Ways.{what_is_printed_is_read, what_is_printed_has_no_fault}
pub use Rattle.asm_text.proofs.Printed.{listing_short}
