-- The words of leaves that are opened: minimal solutions, shared classes with their tags, and wheels.
pub mod Refusals
pub mod Sharing
pub mod Tags
pub mod Turning
pub mod Laws
pub mod inner
-- Passed on from below, so that crates above need not stand on more than they must.
pub use Rattle.fvn_combine_complete.specs.CoveringChoices as CombineCompleteCoveringChoices
pub use Rattle.fvn_combine_complete.specs.Full as CombineCompleteFull
pub use Rattle.fvn_combine_complete.specs.Neutral as CombineCompleteNeutral
pub use Rattle.fvn_combine_complete.specs.Obeying as CombineCompleteObeying
pub use Rattle.fvn_combine_complete.specs.Laws as CombineCompleteLaws
pub use Rattle.fvn_combine_bounds.specs.Narrow as CombineBoundsNarrow
pub use Rattle.fvn_combine_bounds.specs.Laws as CombineBoundsLaws
