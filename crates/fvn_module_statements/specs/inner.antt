-- How the reader goes over the tokens of statements.
pub mod Gather
pub mod Sorts
pub mod Attributes
pub mod Names
pub mod Equations
pub mod Statements
pub mod Forms
