-- The names that statements declare, and which of them are at fault.
pub mod Names
pub mod Order
pub mod Variables
pub mod Vocabulary
pub mod Ranges
pub mod Faults
pub mod inner
