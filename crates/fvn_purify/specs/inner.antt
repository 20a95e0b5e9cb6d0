-- What mirrors the code.
pub mod Standing
pub mod Options
pub mod Choices
pub mod Founds
