-- Lemmas of rewriting; the public ones are for callers.
mod Sequences
pub mod Lists
pub mod Agreement
mod Kinded
pub mod Shaping
pub mod Identities
pub mod Trimming
pub mod Listing
pub mod Choosing
pub mod Losing
pub mod Collapsing
pub mod RuleSteps
