-- The lemmas of the crate.
mod RowTests
mod Ways
mod Finding
mod Steps
mod Sorts
mod Tried
mod Parts
mod Greatest
mod InOrder
pub mod VariablesListed
mod Resorted
pub mod Refined
pub mod AtSorts
mod Covered
