-- What mirrors the code.
pub mod Making
pub mod Collecting
pub mod Heads
