-- Lemmas of critical pairs; the public ones are for callers.
pub mod Heads
mod Single
pub mod GivenRules
pub mod RenewedRules
mod Instances
mod Deciding
mod Unifying
mod Reaching
mod Diverging
