-- What mirrors the code.
pub mod Steps
