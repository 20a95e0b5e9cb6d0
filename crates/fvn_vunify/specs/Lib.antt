-- What contracts of unifiers in a theory speak of.
pub mod Sides
pub mod Solutions
pub mod Causes
pub mod Solved
pub mod AtOnce
pub mod Laws
pub mod inner
