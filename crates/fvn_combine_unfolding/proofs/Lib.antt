-- The lemmas of the crate.
mod Steps
mod Values
mod Measuring
mod Noting
mod Sizing
