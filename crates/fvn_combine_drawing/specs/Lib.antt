-- The words of what a choice at a leaf gives.
pub mod OnKinds
pub mod Choices
pub mod Drawn
pub mod inner
-- Passed on from below, so that crates above need not stand on more than they must.
pub use Rattle.fvn_combine_triangular.specs.Ready as CombineTriangularReady
pub use Rattle.fvn_combine_candidates.specs.Refusals as CombineCandidatesRefusals
pub use Rattle.fvn_combine_candidates.specs.Sharing as CombineCandidatesSharing
pub use Rattle.fvn_combine_candidates.specs.Tags as CombineCandidatesTags
pub use Rattle.fvn_combine_candidates.specs.Turning as CombineCandidatesTurning
pub use Rattle.fvn_combine_candidates.specs.declared as CombineCandidatesDeclared
pub use Rattle.fvn_combine_candidates.specs.Laws as CombineCandidatesLaws
pub use Rattle.fvn_combine_triangular.specs.CombineAdmissibleListed
pub use Rattle.fvn_combine_candidates.specs.CombineCompleteCoveringChoices
pub use Rattle.fvn_combine_candidates.specs.CombineCompleteNeutral
pub use Rattle.fvn_combine_candidates.specs.CombineCompleteObeying
pub use Rattle.fvn_combine_candidates.specs.CombineCompleteLaws
pub use Rattle.fvn_combine_candidates.specs.CombineBoundsNarrow
pub use Rattle.fvn_combine_candidates.specs.CombineBoundsLaws
