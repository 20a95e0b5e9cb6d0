-- The lemmas of the crate; the public ones are for callers.
mod InTurn
mod Headline
mod Explored
pub mod Ended
mod Answering
mod Replied
mod Denoted
mod Shown
