-- The lemmas of the crate.
mod Binding
mod Demands
mod Chosen
mod Alone
pub mod Listing
