-- What mirrors the code.
pub mod Nodes
