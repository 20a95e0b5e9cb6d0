-- The words of refinements: sorts for the variables of a substitution.
pub mod Refinements
pub mod Laws
pub mod inner
