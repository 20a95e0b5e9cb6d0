-- The lemmas of the crate.
pub mod FirstSorts
mod Operators
mod TableLemmas
mod Orders
mod Serving
mod Lowered
pub mod FoundAlike
mod DirectSubsorts
