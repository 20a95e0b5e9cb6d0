-- What mirrors the code.
pub mod Classes
pub mod Joining
pub mod Numbering
pub mod Testing
