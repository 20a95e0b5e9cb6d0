-- What mirrors the code.
pub mod Node
pub mod Falls
pub mod Summands
pub mod Gathered
pub mod SoFar
pub mod SumSorts
pub mod FlatCode
