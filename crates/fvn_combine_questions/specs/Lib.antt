-- The words of questions on states.
pub mod Swaps
pub mod Unfilled
pub mod inner
