-- Lemmas on tables of nodes, their classes and what is decided of them.
pub mod Nodes
pub mod Lists
pub mod Terms
pub mod Subterms
pub mod Admitting
pub mod AxiomTests
pub mod Heading
pub mod Kernels
mod Flatness
pub mod NodesOf
mod Places
