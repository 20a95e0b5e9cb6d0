-- The lemmas of the crate.
pub mod SameValues
mod WaysAlong
mod Sorted
mod Pairs
mod Above
mod Added
mod Covering
mod Ends
mod Told
