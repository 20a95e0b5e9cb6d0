-- The words of what is inferred of a state, and of reduced rows.
pub mod Sorted
pub mod Inferred
pub mod Rows
pub mod Laws
pub mod inner
