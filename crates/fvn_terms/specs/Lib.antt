-- The words of terms, of equality modulo the axioms, of sorts and of unifiers.
pub mod Term
pub mod Plain
pub mod Substitution
pub mod Signature
pub mod Places
pub mod Equality
pub mod Sorts
pub mod Unifiers
pub mod Theory
pub mod CompleteSets
pub mod Rewriting
pub mod Variants
pub mod Laws
pub mod Falls
pub mod Coded
pub mod inner
