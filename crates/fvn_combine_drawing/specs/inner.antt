-- What mirrors the code.
pub mod Unfolded
