-- How the code reads a text.
pub mod Machine
