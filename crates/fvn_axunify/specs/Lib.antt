-- The words of the solver.
pub mod Solvers
pub mod Solved
pub mod Exact
pub mod Searched
pub mod Coarser
pub mod inner
-- Passed on from below, so that crates above need not stand on more than they must.
pub use Rattle.fvn_combine.specs.Coarser as CombineCoarser
