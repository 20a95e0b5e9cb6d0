-- What contracts of places speak of.
pub mod Paths
pub mod Clashes
pub mod Putting
pub mod inner
