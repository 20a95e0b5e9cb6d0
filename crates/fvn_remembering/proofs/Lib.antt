-- The lemmas of the crate.
mod Pairs
mod Told
