-- What mirrors the code.
pub mod Told
pub mod Steps
