-- The lemmas that upper crates may cite.
-- a text of numbers has no bad line, and is that of one list; others have one bad line at most
pub use Rattle.bound_text.proofs.OneReading.{texts_have_no_bad_line, texts_are_of_one_list, one_bad_line}
-- the text of one list behind that of another is that of both, and how long a text is
pub use Rattle.bound_text.proofs.Lines.{texts_join, text_is_short}
