-- What mirrors the code.
pub mod Planning
pub mod Ordering
