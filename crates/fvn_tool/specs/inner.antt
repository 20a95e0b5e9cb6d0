-- What mirrors the code.
pub mod Reading
pub mod Steps
