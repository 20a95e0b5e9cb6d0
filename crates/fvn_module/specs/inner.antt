-- What parts of the reader answer.
pub mod Steps
pub mod Sides
