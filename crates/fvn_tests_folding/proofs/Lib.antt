-- The lemmas of the crate.
mod Members
