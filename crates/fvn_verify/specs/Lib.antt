-- What is said of pairs under a substitution.
pub mod Verdicts
pub mod Laws
pub mod inner
