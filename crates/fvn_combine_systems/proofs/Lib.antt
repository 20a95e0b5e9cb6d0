-- Lemmas on sum systems over nodes, and on values of classes.
pub mod Weighing
pub mod Zeroes
pub mod Members
pub mod Carrying
mod Counting
mod OfProblems
mod Sizes
mod Substituted
-- Passed on from below, so that crates above need not stand on more than they must.
pub use Rattle.fvn_combine_nodes.proofs.Admitting as CombineNodesAdmitting
pub use Rattle.fvn_combine_nodes.proofs.Lists as CombineNodesLists
