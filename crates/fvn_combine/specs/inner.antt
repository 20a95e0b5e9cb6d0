-- What mirrors the code.
pub mod Found
pub mod Parts
pub mod Alike
pub mod Against
pub mod Homes
pub mod Labels
