-- What private contracts speak of.
pub mod Arguments
pub mod Sums
