-- Inner: what is open behind lines, the first of lines, and what is around them.
pub mod Sides
pub mod Stacks
pub mod Firsts
pub mod Reaches
