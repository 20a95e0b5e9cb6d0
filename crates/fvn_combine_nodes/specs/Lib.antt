-- The words of tables of nodes, of their classes, and of what is decided of them.
pub mod Table
pub mod Classes
pub mod States
pub mod Unifiers
pub mod Laws
-- Passed on from below, so that crates above need not stand on more than they must.
pub use Rattle.fvn_flat.specs.Problems as FlatProblems
pub use Rattle.fvn_flat.specs.Solving as FlatSolving
pub use Rattle.fvn_flat.specs.SumSystems as FlatSumSystems
pub use Rattle.fvn_flat.specs.SolvedLists as FlatSolvedLists
pub use Rattle.fvn_flat.specs.Partitions as FlatPartitions
