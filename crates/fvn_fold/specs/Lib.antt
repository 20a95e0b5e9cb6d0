-- What contracts of explorations by levels speak of.
pub mod Levels
pub mod Starts
pub mod inner
