-- What the steps of the readers answer.
pub mod Bound
pub mod Sorting
pub mod Split
pub mod Steps
