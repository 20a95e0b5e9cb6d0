-- The words of covering: values that go with a leaf, choices that they obey, and choices that cover a unifier.
pub mod Obeying
pub mod LaidOut
pub mod Neutral
pub mod Vanishing
pub mod Alive
pub mod Full
pub mod Obeyed
pub mod CoveringChoices
pub mod Laws
-- Passed on from below, so that crates above need not stand on more than they must.
pub use Rattle.fvn_combine_choices.specs.Choosing as CombineChoicesChoosing
pub use Rattle.fvn_combine_choices.specs.Tables as CombineChoicesTables
pub use Rattle.fvn_combine_choices.specs.Laws as CombineChoicesLaws
