-- Inner: what the parts of the two jobs promise each other.
pub mod Refusals
pub mod Numbers
