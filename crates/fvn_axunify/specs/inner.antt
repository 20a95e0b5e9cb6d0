-- What mirrors the code.
pub mod Asked
pub mod Members
pub mod Nexts
pub mod Found
pub mod Numbers
