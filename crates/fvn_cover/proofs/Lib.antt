-- The lemmas of the crate.
mod CoverFacts
pub mod Leftovers
pub mod Additions
mod Folded
mod Prunings
mod PieceFacts
pub mod Ranges
mod Reaching
mod Sieving
