-- Lemmas of normal forms; the public ones are for callers.
mod Searching
mod Kinding
mod Bounding
mod Assigning
mod Matching
mod Redexes
mod Deciding
pub mod Normalising
