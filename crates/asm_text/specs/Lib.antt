-- To believe: how instructions, numbers and statements are written, what a line says, and what a text is.
pub mod Names
pub mod Numbers
pub mod Statements
pub mod Lines
-- To believe: the listing that statements name, what is wrong with them, and the listing of an image.
pub mod Laying
pub mod Faults
pub mod Printing
-- Inner: how a line is read, what it adds, and how the line of a fault is looked for.
pub mod Reading
pub mod Steps
pub mod Searching
-- Claimed: laws of these definitions, and names and texts that were worked out by hand.
pub mod Laws
pub mod WorkedNames
pub mod WorkedTexts
