-- The words of sum systems over nodes, and of values of classes.
pub mod NodeSystems
pub mod Values
pub mod Laws
-- Passed on from below, so that crates above need not stand on more than they must.
pub use Rattle.fvn_combine_nodes.specs.FlatPartitions
pub use Rattle.fvn_combine_nodes.specs.FlatSolvedLists
pub use Rattle.fvn_combine_nodes.specs.Table as CombineNodesTable
pub use Rattle.fvn_combine_nodes.specs.Classes as CombineNodesClasses
pub use Rattle.fvn_combine_nodes.specs.States as CombineNodesStates
pub use Rattle.fvn_combine_nodes.specs.declared as CombineNodesDeclared
