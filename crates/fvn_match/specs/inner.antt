-- What mirrors the code.
pub mod Choices
pub mod Tallies
pub mod Summands
pub mod Variables
pub mod Pairing
pub mod Candidates
pub mod Goals
pub mod Known
pub mod Refusing
pub mod Searching
pub mod Heads
pub mod Apart
