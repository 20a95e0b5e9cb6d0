-- What is loaded with a module.
pub mod Loaded
