-- What mirrors the code.
pub mod Collecting
pub mod Reading
