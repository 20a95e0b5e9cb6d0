-- What the search for minimal solutions goes over.
pub mod Search
pub mod Levels
pub mod Generators
pub mod Least
pub mod Paired
