-- What is promised of the rules of a module.
pub mod Given
pub mod inner
