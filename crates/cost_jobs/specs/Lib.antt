-- Inner: kinds of bytes, as they are told.
pub mod Kinds
