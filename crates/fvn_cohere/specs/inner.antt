-- What mirrors the code.
pub mod Capped
pub mod Searching
pub mod Outlooks
pub mod Posed
pub mod Narrowing
pub mod Collapsing
