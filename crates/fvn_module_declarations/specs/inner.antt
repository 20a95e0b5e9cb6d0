-- What mirrors the code.
pub mod Pairs
pub mod Shapes
pub mod Codes
pub mod Drafts
