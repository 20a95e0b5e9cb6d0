-- The words of bindings at a leaf.
pub mod Ready
pub mod inner
-- Passed on from below, so that crates above need not stand on more than they must.
pub use Rattle.fvn_combine_admissible.specs.Listed as CombineAdmissibleListed
pub use Rattle.fvn_combine_unfolding.specs.Sizes as CombineUnfoldingSizes
