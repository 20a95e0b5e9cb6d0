-- The words of explorations in a module.
pub mod Searches
pub mod Ends
pub mod Answers
pub mod Bounds
-- Passed on from below, so that crates above need not stand on more than they must.
pub use Rattle.fvn_rewrite.specs.Usable as RewriteUsable
