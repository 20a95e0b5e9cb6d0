-- The words of odometers: lists of numbers to come, wheels, tags, and how many lists are left.
pub mod ToCome
pub mod Wheels
pub mod Tags
pub mod Weight
pub mod Laws
pub mod inner
