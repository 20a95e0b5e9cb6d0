-- What private contracts speak of.
pub mod Binding
pub mod Renaming
pub mod Resting
pub mod Outcomes
