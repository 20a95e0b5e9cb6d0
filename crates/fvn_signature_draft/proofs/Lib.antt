-- The lemmas of the crate.
pub mod Operators
mod Closures
pub mod Parts
pub mod AlikeLemmas
mod TableLemmas
pub mod CompletedKinds
mod Serving
pub mod MapSteps
mod FoundAlike
pub mod Components
mod Examples
