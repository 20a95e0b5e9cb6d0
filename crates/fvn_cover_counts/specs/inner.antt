-- What mirrors the code.
pub mod Heads
pub mod Rows
pub mod Comparing
pub mod Bits
pub mod Blocks
