-- What mirrors the code.
pub mod Rows
pub mod Found
pub mod Greatest
pub mod Ordering
pub mod Resorting
