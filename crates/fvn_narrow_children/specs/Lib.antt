-- What contracts of the making of children speak of.
pub mod Values
pub mod Starts
pub mod Growing
pub mod inner
