-- The lemmas of the crate.
mod Alike
