-- What contracts of counts speak of.
pub mod Weights
pub mod Places
pub mod Profiles
pub mod Marks
pub mod inner
