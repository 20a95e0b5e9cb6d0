-- What contracts of matching speak of.
pub mod Matching
pub mod inner
