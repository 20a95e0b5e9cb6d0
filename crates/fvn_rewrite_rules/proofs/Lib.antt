-- The lemmas of the crate.
mod Steps
mod General
mod Choosing
mod Wide
mod Standing
mod Collecting
mod Needed
mod Matched
mod Sorted
mod Claims
