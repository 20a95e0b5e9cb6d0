-- The words of loose classes, and of substitutions that are more general than a unifier.
pub mod MoreGeneral
pub mod Loose
pub mod Laws
pub mod inner
