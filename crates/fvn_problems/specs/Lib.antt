-- What texts ask in a signature and its names, and why they are refused.
pub mod Bindings
pub mod Faults
pub mod Laws
pub mod Problems
pub mod Queries
pub mod Scopes
pub mod Spelling
pub mod VariableTexts
pub mod Variables
pub mod inner
