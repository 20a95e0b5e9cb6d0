-- The words of linear systems, their minimal solutions and their refusals.
pub mod Vectors
pub mod Systems
pub mod Refusals
pub mod Laws
pub mod inner
