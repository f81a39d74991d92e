-- Words on numbers and lists, to be believed where an upper layer's definitions cite them.
pub mod Bytes
pub mod Limits
pub mod FirstBad
