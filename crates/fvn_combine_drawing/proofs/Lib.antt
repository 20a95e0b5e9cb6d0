-- The lemmas of the crate.
mod Agreeing
mod Possible
mod Given
