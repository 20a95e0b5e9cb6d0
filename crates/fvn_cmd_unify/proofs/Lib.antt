-- The lemmas of the crate; the public ones are for callers.
pub mod Flattening
pub mod Asking
mod Listing
mod Solving
pub mod Counting
mod Replied
pub mod Denoted
pub mod Shown
-- Passed on from below, so that crates above need not stand on more than they must.
pub use Rattle.fvn_axunify.proofs.SameValues as AxunifySameValues
