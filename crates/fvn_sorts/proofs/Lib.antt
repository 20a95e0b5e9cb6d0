-- The lemmas of the crate.
pub mod CollectedSteps
mod AlikeLemmas
mod ShapeLemmas
mod LowestResults
mod PairLemmas
mod ThirdLemmas
mod FaultOrder
mod ResultLemmas
mod GoodFrom
mod TwinLemmas
