-- The words of the contracts of this crate.
pub mod Limits
pub mod Words
pub mod Asked
pub mod Answered
pub mod Runs
pub mod Outcomes
pub mod Claims
pub mod Laws
pub mod inner
