-- The lemmas of the crate; the public ones are for callers.
pub mod Made
pub mod Agreeing
mod Replied
