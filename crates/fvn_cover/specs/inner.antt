-- What mirrors the code.
pub mod Profiled
pub mod Reach
pub mod Sieved
