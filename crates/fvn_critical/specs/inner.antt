-- What private contracts speak of.
pub mod Ends
pub mod Comparing
pub mod Testing
pub mod Choosing
