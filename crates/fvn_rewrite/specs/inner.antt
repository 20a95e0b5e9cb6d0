-- What mirrors the code.
pub mod Trying
pub mod Twins
pub mod Walking
pub mod Testing
pub mod Turns
pub mod Short
pub mod SortedTerms
pub mod SortedCode
pub mod Content
pub mod SortedFalls
pub mod Fitting
pub mod Making
pub mod Inside
