-- The faults of signatures.
pub mod Faults
pub mod Laws
pub mod inner
