-- What contracts of weights speak of.
pub mod Values
pub mod Weighing
pub mod Laws
pub mod inner
