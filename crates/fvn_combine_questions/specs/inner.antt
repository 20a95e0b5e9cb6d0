-- What mirrors the code.
pub mod Swaps
pub mod Past
pub mod Touched
pub mod Ranks
pub mod Labels
pub mod Filling
