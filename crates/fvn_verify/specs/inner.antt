-- What mirrors the code.
pub mod Comparing
