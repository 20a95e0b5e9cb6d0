-- What mirrors the code.
pub mod Checks
pub mod NodeSorts
