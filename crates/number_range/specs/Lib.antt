-- Inner: what the parts of `number_range` promise each other.
pub mod Sets
pub mod Notes
pub mod Numbers
