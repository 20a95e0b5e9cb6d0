-- Lemmas of this crate: how the steps of a command make its reply is for callers.
mod Refusals
pub mod Replying
