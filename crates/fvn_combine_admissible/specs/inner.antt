-- What mirrors the code.
pub mod Reads
