-- The words of rewriting with equations.
pub mod Lists
pub mod Agreement
pub mod Kinds
pub mod Shapes
pub mod Identities
pub mod Choices
pub mod Collapses
pub mod Losses
pub mod Admissible
pub mod Lawful
pub mod Normalised
pub mod Laws
