-- The words of bounds that sorts put on choices.
pub mod Narrow
pub mod Bounding
pub mod Laws
pub mod inner
-- Passed on from below, so that crates above need not stand on more than they must.
pub use Rattle.fvn_combine_complete.specs.CombineChoicesTables
pub use Rattle.fvn_combine_complete.specs.Obeying as CombineCompleteObeying
pub use Rattle.fvn_combine_complete.specs.Laws as CombineCompleteLaws
