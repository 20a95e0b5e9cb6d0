-- What mirrors the code.
pub mod Noted
pub mod Replaced
