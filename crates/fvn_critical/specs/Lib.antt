-- What the contract of the test of confluence speaks of.
pub mod Faults
pub mod inner
