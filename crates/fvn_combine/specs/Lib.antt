-- The words of the combination: what is to come of a problem's unifiers on kinds, and why none may come.
pub mod Tasks
pub mod Leaves
pub mod Endings
pub mod Search
pub mod Coarser
pub mod Advancing
pub mod Work
pub mod inner
-- Passed on from below, so that crates above need not stand on more than they must.
pub use Rattle.fvn_combine_drawing.specs.OnKinds as CombineDrawingOnKinds
pub use Rattle.fvn_combine_choices.specs.Covering as CombineChoicesCovering
