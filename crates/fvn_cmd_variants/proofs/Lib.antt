-- The lemmas of the crate.
mod Headline
mod Listed
mod Replied
mod Denoted
mod Shown
