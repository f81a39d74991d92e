-- The door: what upper crates may cite.
pub mod Laws
-- Inner: where the laws stand.
mod Numbers
mod Options
mod Lists
mod SomeItem
mod FirstBad
