-- What mirrors the code.
pub mod Lists
pub mod Splits
pub mod Bounds
pub mod Sizes
pub mod Holding
pub mod Clashes
pub mod Labels
